-- The values of options, by what was found in the words.
use Rattle.std.specs.Prelude.{ℕ, Bool, false, List, [], codes, unwrap_or}
use Rattle.std.specs.Option.{option_map_or}
use Rattle.std.specs.Str.{bytes_eq}
use Rattle.clap.specs.Walk.{Row, all_of, first_of}

abbrev pub is_set : List ℕ → List Row → Bool
is_set id rows = option_map_or (λ text. bytes_eq text (codes "true")) (first_of id rows) false

abbrev pub values_in : List ℕ → List Row → List (List ℕ)
values_in id rows = unwrap_or (all_of id rows) []
