-- Names that are added, and those that one list has and another does not.
use Rattle.std.specs.Prelude.{◌≡◌, ℕ, ◌⊎◌, ◌↔◌, List}
use Rattle.serial_set.specs.declared.span.Span.{Span}
use Rattle.serial_set.specs.Span.{Covers}
use Rattle.krl_types.specs.Entry.{Entry}
use Rattle.krl_types.specs.Naming.{Name, SerialOf, SomeNames}
use Rattle.krl_entries.specs.Revocations.{HoldsName, Revocations}

-- exactly the names that were held, and those with a property, are held
abbrev pub Gains : (old : Revocations) → (Name → Type 0) → (new : Revocations) → Type 0
Gains old More new = (name : Name) → HoldsName new name ↔ (HoldsName old name ⊎ More name)

-- a name that some entry has and the revocations do not hold
abbrev pub Lost : Revocations → List Entry → Name → Type 0
Lost old entries name = SomeNames entries name × (HoldsName old name → ⊥)

-- a serial number with a property, under exactly this authority
abbrev pub SerialWith : List ℕ → (ℕ → Type 0) → Name → Type 0
SerialWith a P (SerialOf b s) = (a ≡ b) × P s
SerialWith a P _ = ⊥

-- a number that some spans cover and others do not
abbrev pub LostSerial : (spans others : List Span) → ℕ → Type 0
LostSerial spans others s = Covers spans s × (Covers others s → ⊥)
