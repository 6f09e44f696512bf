-- How reading lines of a specification file changes the stored revocations.
use Rattle.std.specs.Prelude.{◌≡◌, ◌+◌, ◌≤◌, [], ◌∷◌, Option, Some, None, Result, Ok}
use Rattle.std.specs.Prelude.{Err, ⊤}
use Rattle.key_text.specs.declared.fingerprint_fault.FingerprintFault.TheVariants as fingerprints
use Rattle.key_text.specs.declared.line_fault.LineFault.TheVariants as lines
use Rattle.krl_entries.specs.Changes.{MeansMore}
use Rattle.krl_entries.specs.Revocations.{Revocations, held}
use Rattle.krl_types.specs.Entry.{Entry}
use Rattle.keyed_lines.specs.declared.key_cause.KeyCause.TheVariants as keys
use Rattle.run_faults.specs.declared.spec_cause.SpecCause.{SpecCause}
use Rattle.run_faults.specs.declared.spec_cause.SpecCause.TheVariants as causes

-- A fault that is found only after an allocation.
abbrev pub MayHide : SpecCause → Type 0
MayHide causes.Number = ⊥
MayHide causes.Zero = ⊥
MayHide causes.Reversed = ⊥
MayHide causes.NoAuthority = ⊥
MayHide causes.EmptyId = ⊥
MayHide (causes.Key (keys.Line lines.NoKey)) = ⊥
MayHide (causes.Key cause) = ⊤
MayHide (causes.Fingerprint fingerprints.Prefix) = ⊥
MayHide (causes.Fingerprint fault) = ⊤
MayHide causes.NoMemory = ⊤

-- An allocation may fail before this is found.
abbrev pub MayLackMemory : {A : Type 0} → Result A SpecCause → Type 0
MayLackMemory (Ok found) = ⊤
MayLackMemory (Err cause) = MayHide cause

-- The cause is the one that was read, or an allocation failed.
abbrev pub Reports : {A : Type 0} → SpecCause → Result A SpecCause → Type 0
Reports causes.NoMemory read = MayLackMemory read
Reports cause read = read ≡ Err cause

-- The entry that was read is added, which makes at most one more interval. Otherwise the cause is
-- reported, and nothing changes.
abbrev pub AddsEntry : {A : Type 0} → Result Entry SpecCause → Result A SpecCause
    → Revocations → Revocations → Type 0
AddsEntry read (Ok done) old new =
    (entry : Entry) × (read ≡ Ok entry) × MeansMore old new (entry ∷ []) × (held new ≤ held old + 1)
AddsEntry read (Err cause) old new = Reports cause read × (new ≡ old)

-- The same for a line, which need not have an entry.
abbrev pub AddsLine : {A : Type 0} → Option (Result Entry SpecCause) → Result A SpecCause
    → Revocations → Revocations → Type 0
AddsLine None (Ok done) old new = new ≡ old
AddsLine None (Err cause) old new = ⊥
AddsLine (Some read) result old new = AddsEntry read result old new
