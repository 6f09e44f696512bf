-- How a program ends.
use Rattle.std.specs.Prelude.{◌≢◌, ℕ, List}

-- The status is that of what the program does by its words, or the words were not read, and it is
-- not 0.
pub data EndsProgram (Does : List (List ℕ) → ℕ → Type 0) (status : ℕ) : Type 0 where
  done : (words : List (List ℕ)) → Does words status → EndsProgram Does status
  unread : status ≢ 0 → EndsProgram Does status
