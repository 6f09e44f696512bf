-- A text that is written to a buffer as snprintf writes it.
use Rattle.std.specs.Prelude.{ℕ, List, [], ◌∷◌}

-- The buffer then has as much of the text as leaves room for a zero byte, that byte, and its old
-- bytes after it.
abbrev pub written : List ℕ → List ℕ → List ℕ
written text [] = []
written [] (old ∷ olds) = 0 ∷ olds
written (byte ∷ text) (old ∷ []) = 0 ∷ []
written (byte ∷ text) (old ∷ (next ∷ olds)) = byte ∷ written text (next ∷ olds)
