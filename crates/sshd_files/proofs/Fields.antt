-- A text is split at its first separator, and nowhere else.
use Rattle.std.proofs.Common.{◌≡◌, ◌∙◌, ℕ, ◌+◌, ◌==◌, true, false, not, List, [], ◌∷◌, ◌++◌, Option, Some, None, inl}
use Rattle.std.proofs.Common.{inr}
use Rattle.std.proofs.Common.{ap, arith, drop, length, refl, subst, suc, sym, take}
use Rattle.std.proofs.lemmas.Bool.{and_parts, cases_Bool, cases_lt, eq-eqb, eqb-true, le-ltb, lt-ltb, not-true}
use Rattle.std.specs.List.{list_all, position_or_len}
use Rattle.std.specs.Option.{option_map}
use Rattle.sshd_files.specs.Words.{IsFree, split_around}

pub split_nothing : (c : ℕ) → split_around c [] ≡ None
unfolding split_around
split_nothing c = refl

split_here : (c x : ℕ) (xs : List ℕ) → (x == c) ≡ true → split_around c (x ∷ xs) ≡ Some ([], xs)
unfolding split_around
split_here c x xs e = rw e (rw (lt-ltb 0 (suc (length xs)) (omega arith)) refl)

abbrev with_front : ℕ → List ℕ × List ℕ → List ℕ × List ℕ
with_front x p = (x ∷ p.0, p.1)

split_later : (c x : ℕ) (xs : List ℕ) → (x == c) ≡ false
    → split_around c (x ∷ xs) ≡ option_map (with_front x) (split_around c xs)
unfolding split_around
split_later c x xs e = elim (cases_lt (position_or_len (λ byte. byte == c) xs) (length xs)) [
  | inl lt ↦
      let at : ℕ = position_or_len (λ byte. byte == c) xs in
      rw (e, lt-ltb (1 + at) (suc (length xs)) (omega arith), lt-ltb at (length xs) lt)
      (ap (λ (k : ℕ). Some (take k (x ∷ xs), drop (1 + at + 1) (x ∷ xs))) (one_more at)
      ∙ ap (λ (k : ℕ). Some (x ∷ take at xs, drop k (x ∷ xs))) (two_more at))
  | inr le ↦
      let at : ℕ = position_or_len (λ byte. byte == c) xs in
      rw (e, le-ltb (1 + at) (suc (length xs)) (omega arith), le-ltb at (length xs) le) refl
]
  where
    one_more : (n : ℕ) → 1 + n ≡ suc n
    one_more n = omega arith

    two_more : (n : ℕ) → 1 + n + 1 ≡ suc (n + 1)
    two_more n = omega arith

free_more : (c x : ℕ) (xs : List ℕ) → (x == c) ≡ false → IsFree c xs → IsFree c (x ∷ xs)
free_more c x xs other free = rw other free

pub split_found : (c : ℕ) (text : List ℕ) (p : List ℕ × List ℕ) → split_around c text ≡ Some p
    → (text ≡ p.0 ++ c ∷ p.1) × IsFree c p.0
split_found c [] p e = absurd (let h = sym (split_nothing c) ∙ e in cc)
split_found c (x ∷ xs) p e = elim (cases_Bool (x == c)) [
  | inl here ↦
      let same = sym (split_here c x xs here) ∙ e in
      let front : [] ≡ p.0 = cc in
      let back : xs ≡ p.1 = cc in (
        ap (λ (k : ℕ). k ∷ xs) (eqb-true x c here) ∙ ap (λ (ys : List ℕ). c ∷ ys) back
            ∙ ap (λ (ys : List ℕ). ys ++ c ∷ p.1) front,
        subst (IsFree c) front refl,
      )
  | inr other ↦ by other (split_around c xs) refl (split_found c xs)
]
  where
    by : (x == c) ≡ false → (o : Option (List ℕ × List ℕ)) → split_around c xs ≡ o
        → ((q : List ℕ × List ℕ) → split_around c xs ≡ Some q → (xs ≡ q.0 ++ c ∷ q.1) × IsFree c q.0)
        → ((x ∷ xs) ≡ p.0 ++ c ∷ p.1) × IsFree c p.0
    by other None none more =
        absurd (let h = sym (split_later c x xs other ∙ ap (option_map (with_front x)) none) ∙ e in cc)
    by other (Some q) found more =
        let same = sym (split_later c x xs other ∙ ap (option_map (with_front x)) found) ∙ e in
        let front : (x ∷ q.0) ≡ p.0 = cc in
        let back : q.1 ≡ p.1 = cc in
        let h = more q found in (
          ap (λ (ys : List ℕ). x ∷ ys) h.0 ∙ ap (λ (ys : List ℕ). ys ++ c ∷ q.1) front
              ∙ ap (λ (ys : List ℕ). p.0 ++ c ∷ ys) back,
          subst (IsFree c) front (free_more c x q.0 other h.1),
        )

pub split_again : (c : ℕ) (front back : List ℕ) → IsFree c front
    → split_around c (front ++ c ∷ back) ≡ Some (front, back)
split_again c [] back free = split_here c c back (eq-eqb c c refl)
split_again c (x ∷ xs) back free =
    let parts = and_parts (not (x == c)) (list_all (λ byte. not (byte == c)) xs) free in
    split_later c x (xs ++ c ∷ back) (not-true (x == c) parts.0)
    ∙ ap (option_map (with_front x)) (split_again c xs back parts.1)
