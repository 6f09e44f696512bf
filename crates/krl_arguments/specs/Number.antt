-- The numbers that are values of options.
use Rattle.std.specs.Prelude.{ℕ, ◌^◌, ◌&&◌, not, nat_lt, Bool, List, is_some, Option, Some, None}
use Rattle.std.specs.Prelude.{option_and_then, if◌then◌else◌}
use Rattle.clap.specs.Walk.{Row, first_of}
use Rattle.krl_job.specs.Job.{number_of}

-- the value of an option, if it is given and is a number
abbrev pub number_at : (id : List ℕ) → List Row → Option ℕ
number_at id rows = option_and_then number_of (first_of id rows)

-- a number that every reader of JSON takes exactly
abbrev pub if_exact : ℕ → Option ℕ
if_exact number = if nat_lt number (2 ^ 53) then Some number else None

-- the value of an option, if it is given and is such a number
abbrev pub count_at : (id : List ℕ) → List Row → Option ℕ
count_at id rows = option_and_then if_exact (number_at id rows)

-- an option is given, and this is not read from its value
abbrev pub is_wrong : (id : List ℕ) → (read : Option ℕ) → List Row → Bool
is_wrong id read rows = is_some (first_of id rows) && not (is_some read)
