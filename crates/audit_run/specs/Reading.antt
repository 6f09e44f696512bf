-- The bytes that are read of a reader, or why they are not.
use Rattle.std.specs.Prelude.{◌≡◌, ℕ, ◌≤◌, ◌<◌, Bool, true, false, List, length, take}
use Rattle.std.specs.Prelude.{Option, Some, None, IfSome, Result, Ok, Err}
use Rattle.std.specs.Io.KnownBytes.{Consumes, IsAtEnd}
use Rattle.run_faults.specs.Named.{file_limit}
use Rattle.audit_lines.specs.declared.why.Refusal.{Refusal}
use Rattle.audit_lines.specs.declared.why.Refusal.TheVariants as refusals
use Rattle.audit_run.specs.declared.reading.Came.{Came}
use Rattle.audit_run.specs.declared.reading.Came.TheVariants as cames

-- ---- a reader

-- a reader of this type has failed
abbrev pub SomeFailed : {R : Type 0} → (has_failed : R → Bool) → Type 0
SomeFailed {R} has_failed = (reader : R) × (has_failed reader ≡ true)

-- the bytes that a reader has left as far as it knows them, if there is a reader
abbrev pub left_in : {R : Type 0} → (R → Option (List ℕ)) → Option R → Option (Option (List ℕ))
left_in left None = None
left_in left (Some reader) = Some (left reader)

-- ---- its bytes

-- Why reading ended, with this many bytes in the buffer, at a reader that has these bytes left and
-- failed or not: it has no more, it failed, or the buffer has as many bytes as may be read.
abbrev pub HasCome : (most : ℕ) → Option (List ℕ) → (failed : Bool) → ℕ → Came → Type 0
HasCome most left failed size cames.All = (size < most) × IsAtEnd left × (failed ≡ false)
HasCome most left failed size cames.More = (most ≤ size) × (failed ≡ false)
HasCome most left failed size cames.Failed = failed ≡ true

-- the bytes came of a reader, behind those that came before
pub record ComesBehind (old new : Option (List ℕ)) (before after : List ℕ) : Type 0 where
  pub completed : (all : Option (List ℕ)) → Consumes all old before → Consumes all new after

-- what was read into a buffer
abbrev pub read_as : Result (Unit {0}) Refusal → List ℕ → Result (List ℕ) Refusal
read_as (Ok done) text = Ok text
read_as (Err refusal) text = Err refusal

-- All bytes of a reader, which are these as far as it knows them, or why they are not read: the
-- reader fails, for this reason, or it has more than are read.
pub data IsContent (Fails : Refusal → Type 0) (left : Option (List ℕ))
    (content : Result (List ℕ) Refusal) : Type 0 where
  all_read : (bytes : List ℕ) → content ≡ Ok bytes → length bytes ≤ file_limit
      → IfSome left (λ all. bytes ≡ all) → IsContent Fails left content
  failed : (refusal : Refusal) → content ≡ Err refusal → Fails refusal
      → IsContent Fails left content
  too_long : content ≡ Err refusals.TooLong → IfSome left (λ all. file_limit < length all)
      → IsContent Fails left content

-- why standard input is not read to its end, if its reader failed
abbrev pub InputFails : (Failed : Type 0) → Refusal → Type 0
InputFails Failed refusal = (refusal ≡ refusals.Read) × Failed

-- ---- its first bytes

-- how many bytes show whether a file is a private key file
abbrev pub front_size : ℕ
front_size = 64

abbrev pub front_of : List ℕ → List ℕ
front_of bytes = take front_size bytes

-- The first bytes of a reader came, and its other bytes are left.
pub record IsBegun (old new : Option (List ℕ)) (text : List ℕ) : Type 0 where
  pub comes : Consumes old new text
  pub same : IfSome old (λ bytes. front_of bytes ≡ front_of text)
