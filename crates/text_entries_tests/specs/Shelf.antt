-- The bytes of a list in memory.
use Rattle.std.specs.Prelude.{ℕ, List, Option, Some}
use Rattle.std.specs.Borrow.{Bor}

abbrev pub known : Bor (List ℕ) → Option (List ℕ)
known list = Some list.now
