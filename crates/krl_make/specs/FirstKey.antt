-- The first key of a file, which names an authority (ssh-keygen(1), option -s).
use Rattle.std.specs.Prelude.{◌≡◌, ℕ, ◌+◌, true, false, List, ◌∷◌, ◌++◌, length}
use Rattle.std.specs.List.{All, slice_split}
use Rattle.krl_types.specs.Subject.{Subject}
use Rattle.key_text.specs.Armour.{begins_container}
use Rattle.key_text.specs.Container.{IsContainer, IsPrivateFault}
use Rattle.key_text.specs.KeyFile.{has_key}
use Rattle.key_text.specs.Lines.{is_newline}
use Rattle.key_text.specs.declared.private_fault.PrivateFault.{PrivateFault}
use Rattle.keyed_lines.specs.Keys.{IsKeyFault, IsSubjectLine}
use Rattle.keyed_lines.specs.declared.key_cause.KeyCause.{KeyCause}
use Rattle.run_faults.specs.Keys.{run_fault_at}
use Rattle.run_faults.specs.RunFault.{RunFault, run_fault_of}
use Rattle.run_faults.specs.declared.file_fault.FileFault.TheVariants as files
use Rattle.run_faults.specs.declared.cause.Cause.TheVariants as causes

-- no line has a key
abbrev pub HaveNoKey : List (List ℕ) → Type 0
HaveNoKey lines = All (λ line. has_key line ≡ false) lines

-- A line of a text has a key, the lines before it have none, and the number counts from 1.
pub record IsFirstKeyLine (text : List ℕ) (number : ℕ) (line : List ℕ) : Type 0 where
  pub before : List (List ℕ)
  pub after : List (List ℕ)
  pub parts : slice_split is_newline text ≡ before ++ line ∷ after
  pub none : HaveNoKey before
  pub has : has_key line ≡ true
  pub counted : number ≡ 1 + length before

-- The key of a container, or the plain key of the first line that has one.
pub data IsFirstKey (text blob : List ℕ) : Type 0 where
  of_container : (comment : List ℕ) → begins_container text ≡ true → IsContainer text blob comment
      → IsFirstKey text blob
  of_line : (number : ℕ) (line : List ℕ) (asked : Subject) → begins_container text ≡ false
      → IsFirstKeyLine text number line → IsSubjectLine line asked → blob ≡ asked.plain
      → IsFirstKey text blob

-- Why a file of this name has no first key: the fault of a container, reported without a line; no
-- line with a key; or the fault of the first line that has one.
pub data IsFirstKeyFault (name text : List ℕ) (stop : RunFault) : Type 0 where
  in_container : (fault : PrivateFault) → begins_container text ≡ true → IsPrivateFault text fault
      → stop ≡ run_fault_of name (causes.Private fault) → IsFirstKeyFault name text stop
  without_key : begins_container text ≡ false → HaveNoKey (slice_split is_newline text)
      → stop ≡ run_fault_of name (causes.File files.NoKeys) → IsFirstKeyFault name text stop
  in_line : (number : ℕ) (line : List ℕ) (fault : KeyCause) → begins_container text ≡ false
      → IsFirstKeyLine text number line → IsKeyFault line fault
      → stop ≡ run_fault_at name number (causes.Key fault) → IsFirstKeyFault name text stop
