-- A part of a read or of a write.
use Rattle.std.specs.Prelude.{ℕ, ◌≤◌, List, length, Result, IfOk}

-- the count is that of a prefix of a slice
abbrev pub IsPart : {E : Type 0} → Result ℕ E → List ℕ → Type 0
IsPart result slice = IfOk result (λ count. count ≤ length slice)
