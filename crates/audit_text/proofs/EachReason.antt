-- Items that hold, written one after the other.
use Rattle.std.proofs.Common.{[], ◌+◌, ◌++◌, ◌<◌, ◌∙◌, ◌∷◌, ◌≡◌, ap, append-nil, append_assoc, Bool, false, get_or, if◌then◌else◌, length, List, sym, take, true, ℕ}
use Rattle.std.specs.List.{flat_map}
use Rattle.std.proofs.lemmas.Grind.{flat_map-append}
use Rattle.std.proofs.lemmas.List.{take_more}

module _ {A B C : Type 0} (has : A → Bool) (part : A → List B) (written : List B → List C) (none : written [] ≡ []) (joins : (a b : List B) → written (a ++ b) ≡ written a ++ written b) where
  abbrev part_if : A → List B
  part_if x = if has x then part x else []

  parts_more : (xs : List A) (i : ℕ) (d : A) → i < length xs → flat_map part_if (take i xs) ++ part_if (get_or xs i d) ≡ flat_map part_if (take (i + 1) xs)
  parts_more xs i d lt =
      sym (ap (flat_map part_if) (take_more xs i d lt) ∙ flat_map-append part_if (take i xs) (get_or xs i d ∷ []) ∙ ap (λ more. flat_map part_if (take i xs) ++ more) (append-nil (part_if (get_or xs i d))))

  appended : (old now new : List C) (xs : List A) (i : ℕ) (d : A) → i < length xs → now ≡ old ++ written (flat_map part_if (take i xs)) → new ≡ now ++ written (part_if (get_or xs i d))
      → new ≡ old ++ written (flat_map part_if (take (i + 1) xs))
  appended old now new xs i d lt so_far one =
      let before = flat_map part_if (take i xs) in
      one ∙ ap (λ so_far. so_far ++ written (part_if (get_or xs i d))) so_far ∙ append_assoc old (written before) (written (part_if (get_or xs i d)))
      ∙ ap (λ all. old ++ all) (sym (joins before (part_if (get_or xs i d)))) ∙ ap (λ all. old ++ written all) (parts_more xs i d lt)

  pub one_more : (old now new : List C) (xs : List A) (i : ℕ) (d : A) → i < length xs → now ≡ old ++ written (flat_map part_if (take i xs)) → true ≡ has (get_or xs i d) → new ≡ now ++ written (part (get_or xs i d))
      → new ≡ old ++ written (flat_map part_if (take (i + 1) xs))
  one_more old now new xs i d lt so_far is one =
      appended old now new xs i d lt so_far (one ∙ ap (λ (b : Bool). now ++ written (if b then part (get_or xs i d) else [])) is)

  pub passed_over : (old now : List C) (xs : List A) (i : ℕ) (d : A) → i < length xs → now ≡ old ++ written (flat_map part_if (take i xs)) → false ≡ has (get_or xs i d)
      → now ≡ old ++ written (flat_map part_if (take (i + 1) xs))
  passed_over old now xs i d lt so_far is =
      appended old now now xs i d lt so_far
      (sym (append-nil now) ∙ ap (λ more. now ++ more) (sym none) ∙ ap (λ (b : Bool). now ++ written (if b then part (get_or xs i d) else [])) is)
