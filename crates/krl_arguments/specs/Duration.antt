-- Durations, as the values of options: a number and its unit.
use Rattle.std.specs.Prelude.{ℕ, ◌*◌, ◌-◌, ◌^◌, ◌==◌, ◌&&◌, nat_lt, List, length, take, slice_get}
use Rattle.std.specs.Prelude.{if◌then◌else◌, Option, Some, None, option_and_then}
use Rattle.krl_job.specs.Job.{number_of}

-- the seconds of a unit, by its letter: s, m, h or d
abbrev pub seconds_of : ℕ → Option ℕ
seconds_of unit =
    if unit == 115 then Some 1
    else if unit == 109 then Some 60
    else if unit == 104 then Some 3600
    else if unit == 100 then Some 86400
    else None

-- the seconds of this number of units, if there is one and the seconds are below 2^53
abbrev pub whole_seconds : Option ℕ → Option ℕ → Option ℕ
whole_seconds (Some count) (Some unit) =
    if nat_lt 0 count && nat_lt (count * unit) (2 ^ 53) then Some (count * unit) else None
whole_seconds (Some count) None = None
whole_seconds None unit = None

-- The seconds of a duration: decimal digits and the letter of a unit.
unfoldable pub duration_of : List ℕ → Option ℕ
duration_of text = whole_seconds
    (number_of (take (length text - 1) text))
    (option_and_then seconds_of (slice_get text (length text - 1)))
