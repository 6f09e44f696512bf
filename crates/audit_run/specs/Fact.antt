-- The facts that a tree of files may state about a path.
use Rattle.std.specs.Prelude.{ℕ, Bool, List, Option, Result}
use Rattle.audit_lines.specs.declared.why.Refusal.{Refusal}
use Rattle.audit_run.specs.declared.file_kind.Found.{Found}
use Rattle.audit_run.specs.declared.file_kind.Identity.{Identity}

-- An open file: whether it is a regular one, which one it is, and its bytes, as far as its reader
-- knows them.
pub record OpenFile : Type 0 where
  pub is_file : Bool
  pub identity : Identity
  pub bytes : Option (List ℕ)

abbrev pub open_file : Bool → Identity → Option (List ℕ) → OpenFile
open_file is_file identity bytes =
    record { is_file = is_file; identity = identity; bytes = bytes }

pub data Fact : Type 0 where
  -- what a path leads to, if links are followed or not, or why it cannot be looked at
  Leads : (path : List ℕ) (followed : Bool) → Result Found Refusal → Fact
  -- whether the command excludes a name of a directory
  Excludes : (name : List ℕ) → Bool → Fact
  -- whether the directory that a link leads to has a name that is looked for
  Sought : (path : List ℕ) → Bool → Fact
  -- whether a directory that was found is on another file system than the directory that was named
  -- last, and the audit stays on one
  Elsewhere : (path : List ℕ) → Bool → Fact
  -- what is opened at a path that was looked at or not, or why it cannot be opened
  Opens : (path : List ℕ) (looked : Option Found) → Result OpenFile Refusal → Fact
  -- why an open file could not be read to its end
  Fails : (path : List ℕ) → Refusal → Fact
  -- the names of a directory that is named or not, as far as the reader of them knows, or why it
  -- cannot be entered
  Lists : (path : List ℕ) (named : Bool) → Result (Option (List ℕ)) Refusal → Fact
  -- why the names of a directory could not be read to their end
  Breaks : (path : List ℕ) (named : Bool) → Refusal → Fact
