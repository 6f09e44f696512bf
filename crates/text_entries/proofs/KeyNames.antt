-- The names of keys, by the keys.
use Rattle.std.proofs.Common.{◌≡◌, ℕ, Bool, true, false, List, [], ◌∷◌, Option, Some, None, cond, refl, sym, ap, ◌∙◌, inl, inr}
use Rattle.std.specs.Cmp.Lexicographic.{slice_cmp}
use Rattle.std.specs.Ordering.{match_ordering, nat_cmp}
use Rattle.std.specs.Str.{bytes_eq}
use Rattle.std.specs.declared.cmp.Ordering.{Ordering}
use Rattle.std.specs.declared.cmp.Ordering.TheVariants.{Equal, Greater, Less}
use Rattle.std.proofs.lemmas.Bool.{cases_Bool, false≢true}
use Rattle.std.proofs.lemmas.Map.Lookups.{exact_bytes}
use Rattle.std.proofs.lemmas.Map.Text.{is_eq-slice_cmp}
use Rattle.std.proofs.lemmas.Slice.Eq.{bytes_eq-Decides}
use Rattle.text_entries.specs.AuthorityNames.{NamedKeys, key_named, name_of, or_named, with_name}

-- ---- a name that was added

abbrev Added : NamedKeys → (key name other : List ℕ) → NamedKeys → Type 0
Added names key name other added = key_named added other ≡ cond (bytes_eq other key) (Some name) (key_named names other)

twice : (same : Bool) (name known : List ℕ) (found : Option (List ℕ)) → cond same (Some name) found ≡ cond same (Some name) (cond same (Some known) found)
twice true name known found = refl
twice false name known found = refl

-- a key that is above another one is not that one
apart : (key known other : List ℕ) → slice_cmp nat_cmp key known ≡ Greater → bytes_eq other known ≡ true → bytes_eq other key ≡ false
apart key known other above same = elim (cases_Bool (bytes_eq other key)) [
  | inl also ↦
      let one : other ≡ known = (bytes_eq-Decides other known).0 same in
      let two : other ≡ key = (bytes_eq-Decides other key).0 also in
      let equal : bytes_eq key known ≡ true = (bytes_eq-Decides key known).1 (sym two ∙ one) in
      absurd (false≢true (rw (above) at (is_eq-slice_cmp key known) ∙ equal))
  | inr is ↦ is
]

passed : (key name other : List ℕ) (e : List ℕ × List ℕ) (names : NamedKeys) → slice_cmp nat_cmp key e.0 ≡ Greater → Added names key name other (with_name names key name)
    → Added (e ∷ names) key name other (e ∷ with_name names key name)
passed key name other e names above later = elim (cases_Bool (bytes_eq other e.0)) [
  | inl same ↦ rw (is_eq-slice_cmp other e.0, same, apart key e.0 other above same) refl
  | inr not ↦ rw (is_eq-slice_cmp other e.0, not) later
]

placed : (key name other : List ℕ) (e : List ℕ × List ℕ) (names : NamedKeys) (o : Ordering) → slice_cmp nat_cmp key e.0 ≡ o → Added names key name other (with_name names key name)
    → Added (e ∷ names) key name other (match_ordering o ((key, name) ∷ e ∷ names) ((e.0, name) ∷ names) (e ∷ with_name names key name))
placed key name other e names Less is later = rw (is_eq-slice_cmp other key) refl
placed key name other e names Equal is later =
    let same : key ≡ e.0 = exact_bytes key e.0 is in
    rw (is_eq-slice_cmp other e.0, same) (twice (bytes_eq other e.0) name e.1 (key_named names other))
placed key name other e names Greater is later = passed key name other e names is later

-- a name is found by its key, and the others as before
pub named_after : (names : NamedKeys) (key name other : List ℕ) → key_named (with_name names key name) other ≡ cond (bytes_eq other key) (Some name) (key_named names other)
named_after [] key name other = rw (is_eq-slice_cmp other key) refl
named_after (e ∷ names) key name other = placed key name other e names (slice_cmp nat_cmp key e.0) refl (named_after names key name other)

-- ---- a key that has a name, or gets one

others_stay : (found : Option (List ℕ)) (key name other : List ℕ) → bytes_eq other key ≡ false → found ≡ or_named found key name other
others_stay (Some one) key name other not = refl
others_stay None key name other not = rw not refl

pub known : (names : NamedKeys) (key name other found : List ℕ) → key_named names key ≡ Some found
    → key_named names other ≡ or_named (key_named names other) key name other
known names key name other found has = elim (cases_Bool (bytes_eq other key)) [
  | inl same ↦
      let one : key_named names other ≡ Some found = ap (key_named names) ((bytes_eq-Decides other key).0 same) ∙ has in
      rw one refl
  | inr not ↦ others_stay (key_named names other) key name other not
]

pub unknown : (names : NamedKeys) (key name other : List ℕ) → key_named names key ≡ None
    → key_named (with_name names key name) other ≡ or_named (key_named names other) key name other
unknown names key name other none = elim (cases_Bool (bytes_eq other key)) [
  | inl same ↦
      let unnamed : key_named names other ≡ None = ap (key_named names) ((bytes_eq-Decides other key).0 same) ∙ none in
      rw (named_after names key name other, unnamed, same) refl
  | inr not ↦ rw (named_after names key name other, not) (others_stay (key_named names other) key name other not)
]

-- ---- the names so far, and others

-- the found name, or otherwise a later one
abbrev pub or_later : (found later : Option (List ℕ)) → Option (List ℕ)
or_later (Some name) later = Some name
or_later None later = later

pub one_more : (found : Option (List ℕ)) (key name other : List ℕ) (names : NamedKeys)
    → or_later (or_named found key name other) (name_of names other) ≡ or_later found (name_of ((name, key) ∷ names) other)
unfolding name_of
one_more (Some one) key name other names = refl
one_more None key name other names = elim (cases_Bool (bytes_eq other key)) [
  | inl same ↦ rw same refl
  | inr not ↦ rw not refl
]

pub all_found : (found : Option (List ℕ)) (other : List ℕ) → or_later found (name_of [] other) ≡ found
unfolding name_of
all_found (Some one) other = refl
all_found None other = refl
