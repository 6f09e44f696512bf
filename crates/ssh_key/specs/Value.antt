-- When two values of public fields are equal.
use Rattle.std.specs.Prelude.{◌≡◌, ℕ, List, [], ◌∷◌}
use Rattle.ssh_wire.specs.Wire.{number_of}
use Rattle.ssh_wire.specs.Rows.{Magnitude, Part, Row}
use Rattle.ssh_key.specs.declared.fault.KeyFault.{KeyFault}

-- The two values of the part are equal: the same number, or the same string.
abbrev pub SameValue : Part → List ℕ → List ℕ → Type 0
SameValue Magnitude a b = number_of a ≡ number_of b
SameValue part a b = a ≡ b

abbrev pub SameValues : List (Row KeyFault) → List (List ℕ) → List (List ℕ) → Type 0
SameValues [] left right = Unit {0}
SameValues (field ∷ fields) [] right = ⊥
SameValues (field ∷ fields) (a ∷ left) [] = ⊥
SameValues (field ∷ fields) (a ∷ left) (b ∷ right) =
    SameValue field.part a b × SameValues fields left right
