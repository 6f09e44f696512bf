-- The version of a list that is made.
use Rattle.std.specs.Prelude.{ℕ, ◌+◌, ◌-◌, ◌^◌, ◌==◌, if◌then◌else◌, Option, Some, None}

-- The version that is given, otherwise one more than that of the list that it follows, otherwise
-- the first one. There is none if the old one is the largest.
abbrev pub version_of : (first : ℕ) → (given old : Option ℕ) → Option ℕ
version_of first (Some given) old = Some given
version_of first None None = Some first
version_of first None (Some old) = if old == 2 ^ 64 - 1 then None else Some (old + 1)
