-- A scan of a text finds the keys of its places, and nothing else.
use Rattle.std.proofs.Common.{◌≡◌, ◌⊎◌, inl, inr, ℕ, ◌+◌, List, [], ◌∷◌, ◌++◌, length, map, refl, sym, ap, subst, ◌∙◌, arith}
use Rattle.std.specs.List.{Contains, slice_split}
use Rattle.std.proofs.lemmas.List.Elements.{Contains-append_cases, Contains-append_left, Contains-append_right}
use Rattle.key_text.specs.Lines.{is_newline}
use Rattle.krl_types.proofs.Elements.{contains_cases, contains_here, contains_later, contains_none}
use Rattle.key_places.specs.Place.{IsPlace, KeyPlace}
use Rattle.key_places.specs.Reading.{places_of}
use Rattle.audit_lines.specs.Outcome.{Empty, Placed, place}
use Rattle.krl_audit.specs.Scan.{IsAtPlace, placed_at, placed_in, scanned_from, scanned_lines}

-- ---- a line

mapped : (number : ℕ) (places : List KeyPlace) (one : KeyPlace) → Contains places one → Contains (map (placed_at number) places) (placed_at number one)
mapped number [] one has = absurd (contains_none one has)
mapped number (first ∷ more) one has =
    elim (contains_cases first one more has) [
      | inl same ↦ subst (λ (p : KeyPlace). Contains (map (placed_at number) (first ∷ more)) (placed_at number p)) same (contains_here (placed_at number first) (map (placed_at number) more))
      | inr later ↦ contains_later (placed_at number first) (placed_at number one) (map (placed_at number) more) (mapped number more one later)
    ]

unmapped : (number : ℕ) (places : List KeyPlace) (placed : Placed) → Contains (map (placed_at number) places) placed → (one : KeyPlace) × Contains places one × (placed ≡ placed_at number one)
unmapped number [] placed has = absurd (contains_none placed has)
unmapped number (first ∷ more) placed has =
    elim (contains_cases (placed_at number first) placed (map (placed_at number) more) has) [
      | inl same ↦ (first, contains_here first more, sym same)
      | inr later ↦ let found = unmapped number more placed later in (found.0, contains_later first found.0 more found.1, found.2)
    ]

-- ---- lines

-- the outcome is that of a place of one of the lines, of which the first has this number
record IsWithin (number : ℕ) (lines : List (List ℕ)) (placed : Placed) : Type 0 where
  before : List (List ℕ)
  line : List ℕ
  after : List (List ℕ)
  parts : lines ≡ before ++ line ∷ after
  one : KeyPlace
  has : Contains (places_of line) one
  placed_is : placed ≡ placed_at (length before + number) one

found_from : (number : ℕ) (before : List (List ℕ)) (line : List ℕ) (after : List (List ℕ)) (one : KeyPlace) → Contains (places_of line) one
    → Contains (scanned_from number (before ++ line ∷ after)) (placed_at (length before + number) one)
found_from number [] line after one has =
    let same : number ≡ length {A = List ℕ} [] + number = omega arith in
    subst (λ (n : ℕ). Contains (scanned_from number ([] ++ line ∷ after)) (placed_at n one)) same
    (Contains-append_left (placed_in number line) (scanned_from (number + 1) after) (placed_at number one)
    (Contains-append_left (map (placed_at number) (places_of line)) (place number Empty ∷ []) (placed_at number one) (mapped number (places_of line) one has)))
found_from number (first ∷ before) line after one has =
    let same : length before + (number + 1) ≡ length (first ∷ before) + number = omega arith in
    subst (λ (n : ℕ). Contains (scanned_from number ((first ∷ before) ++ line ∷ after)) (placed_at n one)) same
    (Contains-append_right (placed_in number first) (scanned_from (number + 1) (before ++ line ∷ after)) (placed_at (length before + (number + 1)) one) (found_from (number + 1) before line after one has))

one_later : (number : ℕ) (first : List ℕ) (lines : List (List ℕ)) (placed : Placed) → IsWithin (number + 1) lines placed → IsWithin number (first ∷ lines) placed
one_later number first lines placed is =
    let same : length is.before + (number + 1) ≡ length (first ∷ is.before) + number = omega arith in
    record {
      before = first ∷ is.before;
      line = is.line;
      after = is.after;
      parts = ap (λ (all : List (List ℕ)). first ∷ all) is.parts;
      one = is.one;
      has = is.has;
      placed_is = is.placed_is ∙ ap (λ (n : ℕ). placed_at n is.one) same;
    }

in_first : (number : ℕ) (line : List ℕ) (lines : List (List ℕ)) (placed : Placed) → Contains (placed_in number line) placed → IsWithin number (line ∷ lines) placed ⊎ (placed.outcome ≡ Empty)
in_first number line lines placed has =
    elim (Contains-append_cases (map (placed_at number) (places_of line)) (place number Empty ∷ []) placed has) [
      | inl at ↦
          let found = unmapped number (places_of line) placed at in
          let same : number ≡ length {A = List ℕ} [] + number = omega arith in
          inl (record { before = []; line = line; after = lines; parts = refl; one = found.0; has = found.1; placed_is = found.2 ∙ ap (λ (n : ℕ). placed_at n found.0) same })
      | inr end ↦
          elim (contains_cases (place number Empty) placed [] end) [
            | inl same ↦ inr (sym (ap (λ (p : Placed). p.outcome) same))
            | inr none ↦ absurd (contains_none placed none)
          ]
    ]

found_in : (number : ℕ) (lines : List (List ℕ)) (placed : Placed) → Contains (scanned_from number lines) placed → IsWithin number lines placed ⊎ (placed.outcome ≡ Empty)
found_in number [] placed has = absurd (contains_none placed has)
found_in number (line ∷ lines) placed has =
    elim (Contains-append_cases (placed_in number line) (scanned_from (number + 1) lines) placed has) [
      | inl here ↦ in_first number line lines placed here
      | inr later ↦
          elim (found_in (number + 1) lines placed later) [
            | inl is ↦ inl (one_later number line lines placed is)
            | inr empty ↦ inr empty
          ]
    ]

-- ---- a text

pub each_found : ((line : List ℕ) (one : KeyPlace) → IsPlace line one → Contains (places_of line) one) → (text : List ℕ) (placed : Placed) → IsAtPlace text placed → Contains (scanned_lines text) placed
unfolding scanned_lines
each_found all text placed is =
    rw (is.lines, is.placed_is) (found_from 1 is.before is.line is.after is.found (all is.line is.found is.is_place))

pub none_else : ((line : List ℕ) (one : KeyPlace) → Contains (places_of line) one → IsPlace line one) → (text : List ℕ) (placed : Placed) → Contains (scanned_lines text) placed → IsAtPlace text placed ⊎ (placed.outcome ≡ Empty)
unfolding scanned_lines
none_else found text placed has =
    elim (found_in 1 (slice_split is_newline text) placed has) [
      | inl is ↦ inl (record {
        before = is.before;
        line = is.line;
        after = is.after;
        lines = is.parts;
        found = is.one;
        is_place = found is.line is.one is.has;
        placed_is = is.placed_is;
      })
      | inr empty ↦ inr empty
    ]
