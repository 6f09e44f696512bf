-- Readers and spellings that correspond.
use Rattle.std.specs.Prelude.{◌≡◌, ℕ, ◌<◌, ◌^◌, ◌↔◌, List, ◌++◌, length, Result, Ok, Err}
use Rattle.ssh_wire.specs.declared.fault.WireFault.{WireFault}
use Rattle.ssh_wire.specs.declared.fault.WireFault.TheVariants.{Short}
use Rattle.ssh_wire.specs.Wire.{IsBytes, IsMagnitude, complement, mpint, number_of}

-- Reading succeeds exactly if the bytes begin with the spelling of a value that fits. It gives that
-- value and the bytes after it.
abbrev pub ReadsJust
    : {X E : Type 0} → (List ℕ → Result (X × List ℕ) E) → (X → List ℕ) → (X → Type 0) → Type 0
ReadsJust {X = X} read spelling Fits =
    (bytes : List ℕ) (value : X) (rest : List ℕ) → IsBytes bytes
    → (read bytes ≡ Ok (value, rest)) ↔ ((bytes ≡ spelling value ++ rest) × Fits value)

-- Each proper prefix of the text is read as short.
abbrev pub IsShortWhereCut : {A : Type 0} → (List ℕ → Result A WireFault) → List ℕ → Type 0
IsShortWhereCut read text =
    (front rest : List ℕ) → text ≡ front ++ rest → 0 < length rest → read front ≡ Err Short

-- The text is the spelling of a magnitude of the number n.
pub record HasMpint (text : List ℕ) (n : ℕ) : Type 0 where
  pub magnitude : List ℕ
  pub is_bytes : IsBytes magnitude
  pub is_magnitude : IsMagnitude magnitude
  pub fits : length (complement magnitude) < 2 ^ 32
  pub value : n ≡ number_of magnitude
  pub spelled : text ≡ mpint magnitude
