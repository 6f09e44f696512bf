-- The columns of the places increase.
use Rattle.std.proofs.Common.{◌≡◌, ℕ, zero, suc, ◌+◌, ◌<◌, List, [], ◌∷◌, Option, Some, None, length, map, refl, arith}
use Rattle.std.specs.List.{cons_option, slice_index}
use Rattle.std.specs.List.Sorted.{IsStrictlyIncreasing}
use Rattle.key_places.specs.Place.{KeyPlace}
use Rattle.key_places.specs.Reading.{place_at, places_from}
use Rattle.key_places.proofs.PlaceLaws.{column_is}
use Rattle.key_places.proofs.ReadingLaws.{no_places, places_step}

abbrev columns : List KeyPlace → List ℕ
columns places = map (λ (place : KeyPlace). place.column) places

-- the columns increase, and each is above a position
record Rise (from : ℕ) (places : List KeyPlace) : Type 0 where
  pub above : (k : ℕ) → k < length (columns places) → from < slice_index (columns places) k
  pub increasing : IsStrictlyIncreasing (columns places)

rise_none : (from : ℕ) → Rise from []
rise_none from = record { above = λ k within. absurd (omega arith); increasing = λ k within. absurd (omega arith) }

rise_more : (from : ℕ) (first : Option KeyPlace) (places : List KeyPlace)
    → ((place : KeyPlace) → first ≡ Some place → place.column ≡ from + 1) → Rise (from + 1) places
    → Rise from (cons_option first places)
rise_more from None places here rise =
    record { above = λ k within. omega (arith, rise.above k within); increasing = rise.increasing }
rise_more from (Some place) places here rise = record { above = above; increasing = increasing }
  where
    above : (k : ℕ) → k < length (columns (place ∷ places)) → from < slice_index (columns (place ∷ places)) k
    above zero within = omega (arith, here place refl)
    above (suc k) within = omega (arith, rise.above k (omega arith))

    increasing : IsStrictlyIncreasing (columns (place ∷ places))
    increasing zero within = omega (arith, here place refl, rise.above 0 (omega arith))
    increasing (suc k) within =
        let next : suc k + 1 ≡ suc (k + 1) = omega arith in rw next (rise.increasing k (omega arith))

rise_by : (line : List ℕ) (count from : ℕ) → from + count ≡ length line → Rise from (places_from line from)
rise_by line zero from end = rw (no_places line from (omega arith)) (rise_none from)
rise_by line (suc count) from end =
    rw (places_step line from (omega arith))
    (rise_more from (place_at line from) (places_from line (from + 1)) (column_is line from)
    (rise_by line count (from + 1) (omega arith)))

pub columns_rise : (line : List ℕ) → IsStrictlyIncreasing (columns (places_from line 0))
columns_rise line = (rise_by line (length line) 0 (omega arith)).increasing
