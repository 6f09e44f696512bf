-- The places from a position on.
use Rattle.std.proofs.Common.{◌≡◌, ℕ, zero, suc, ◌+◌, ◌-◌, ◌<◌, ◌≤◌, List, [], Option, Some, None, length, Contains}
use Rattle.std.proofs.Common.{refl, sym, ap, subst, ◌∙◌, arith, inl, inr, ◌⊎◌}
use Rattle.std.specs.List.{cons_option}
use Rattle.key_places.specs.Place.{KeyPlace}
use Rattle.key_places.specs.Reading.{NoneWithin, place_at, places_from}

pub places_step : (line : List ℕ) (at : ℕ) → at < length line
    → places_from line at ≡ cons_option (place_at line at) (places_from line (at + 1))
unfolding places_from
places_step line at within =
    let size : length line - at ≡ suc (length line - (at + 1)) = omega arith in
    rw size refl

pub no_places : (line : List ℕ) (at : ℕ) → length line ≤ at → places_from line at ≡ []
unfolding places_from
no_places line at past = let size : length line - at ≡ 0 = omega arith in rw size refl

skipped_by : (line : List ℕ) (count at : ℕ) → at + count ≤ length line → NoneWithin line at (at + count)
    → places_from line at ≡ places_from line (at + count)
skipped_by line zero at within none = ap (places_from line) (omega arith)
skipped_by line (suc count) at within none =
    let here : place_at line at ≡ None = none at (omega arith) (omega arith) in
    let more = skipped_by line count (at + 1) (omega arith) (λ k low high. none k (omega arith) (omega arith)) in
    let same : at + 1 + count ≡ at + suc count = omega arith in
    places_step line at (omega arith) ∙ rw here (more ∙ ap (places_from line) same)

pub skipped : (line : List ℕ) (from to : ℕ) → from ≤ to → to ≤ length line → NoneWithin line from to
    → places_from line from ≡ places_from line to
skipped line from to order within none =
    let same : from + (to - from) ≡ to = omega arith in
    skipped_by line (to - from) from (omega arith) (λ k low high. none k low (omega arith)) ∙ ap (places_from line) same

-- ---- which places they are

pub record IsReadAt (line : List ℕ) (from : ℕ) (place : KeyPlace) : Type 0 where
  pub at : ℕ
  pub low : from ≤ at
  pub high : at < length line
  pub is : place_at line at ≡ Some place

contains_cases : (first : Option KeyPlace) (places : List KeyPlace) (place : KeyPlace)
    → Contains (cons_option first places) place → (first ≡ Some place) ⊎ Contains places place
contains_cases None places place has = inr has
contains_cases (Some here) places place (zero, within, is) = inl (ap (λ (p : KeyPlace). Some p) is)
contains_cases (Some here) places place (suc k, within, is) = inr (k, omega arith, is)

contains_first : (first : Option KeyPlace) (places : List KeyPlace) (place : KeyPlace) → first ≡ Some place
    → Contains (cons_option first places) place
contains_first first places place is = rw is (0, omega arith, refl)

contains_later : (first : Option KeyPlace) (places : List KeyPlace) (place : KeyPlace) → Contains places place
    → Contains (cons_option first places) place
contains_later None places place has = has
contains_later (Some here) places place (k, within, is) = (suc k, omega arith, is)

read_by : (line : List ℕ) (count from : ℕ) (place : KeyPlace) → from + count ≡ length line
    → Contains (places_from line from) place → IsReadAt line from place
read_by line zero from place end has =
    let none : Contains [] place =
    subst (λ (places : List KeyPlace). Contains places place) (no_places line from (omega arith)) has in
    absurd (omega (arith, none.1))
read_by line (suc count) from place end has =
    elim (contains_cases (place_at line from) (places_from line (from + 1)) place
    (subst (λ (places : List KeyPlace). Contains places place) (places_step line from (omega arith)) has)) [
      | inl here ↦ record { at = from; low = omega arith; high = omega arith; is = here }
      | inr later ↦
          let read = read_by line count (from + 1) place (omega arith) later in
          record { at = read.at; low = omega (arith, read.low); high = read.high; is = read.is }
    ]

pub places_read : (line : List ℕ) (place : KeyPlace) → Contains (places_from line 0) place → IsReadAt line 0 place
places_read line place has = read_by line (length line) 0 place (omega arith) has

has_by : (line : List ℕ) (count from : ℕ) (place : KeyPlace) (read : IsReadAt line from place) → from + count ≡ read.at
    → Contains (places_from line from) place
has_by line zero from place read end =
    let same : read.at ≡ from = omega arith in
    let here : place_at line from ≡ Some place = ap (place_at line) (sym same) ∙ read.is in
    let within : from < length line = omega (arith, read.high) in
    rw (places_step line from within) (contains_first (place_at line from) (places_from line (from + 1)) place here)
has_by line (suc count) from place read end =
    let within : from < length line = omega (arith, read.high) in
    let later : IsReadAt line (from + 1) place =
    record { at = read.at; low = omega arith; high = read.high; is = read.is } in
    rw (places_step line from within)
    (contains_later (place_at line from) (places_from line (from + 1)) place
    (has_by line count (from + 1) place later (omega arith)))

pub places_has : (line : List ℕ) (place : KeyPlace) → IsReadAt line 0 place → Contains (places_from line 0) place
places_has line place read = has_by line read.at 0 place read (omega arith)
