-- The files that sshd reads, and what an audit meets there.
use Rattle.std.specs.Prelude.{◌≡◌, ℕ, ◌<◌, ◌≤◌, ◌==◌, ◌||◌, Bool, true, false, List, [], ◌++◌, codes}
use Rattle.std.specs.Prelude.{length, take, Some, Result, Ok, Err}
use Rattle.std.specs.List.{list_any}
use Rattle.std.specs.Str.{IsUtf8}
use Rattle.line_pieces.specs.Visible.{visible_bytes}
use Rattle.audit_lines.specs.declared.why.Refusal.{Refusal}
use Rattle.audit_lines.specs.declared.why.Refusal.TheVariants as refusals
use Rattle.krl_audit.specs.Audit.{FileName, own_name}
use Rattle.sshd_files.specs.declared.files.SshdFile.{SshdFile}
use Rattle.sshd_files.specs.declared.files.SshdFileKind.{SshdFileKind}
use Rattle.sshd_files.specs.declared.files.SshdFileKind.TheVariants as sshd
use Rattle.audit_run.specs.Entries.{VisitsTarget}
use Rattle.audit_run.specs.Fact.{Fact, Leads}
use Rattle.audit_run.specs.Named.{IsWaiting, most_name}
use Rattle.audit_run.specs.Visits.{Visit, refused}
use Rattle.audit_run.specs.declared.file_kind.Found.{Found}

-- a file whose lines are read as those of authorized_keys, whatever its name is
abbrev pub as_keys : List ℕ → FileName
as_keys path = record { shown = path; read_as = Some (codes "authorized_keys") }

-- the file of the public key of a host key
abbrev pub public_path : List ℕ → List ℕ
public_path path = path ++ codes ".pub"

-- there is nothing at a path
abbrev pub is_missing : Result Found Refusal → Bool
is_missing (Ok found) = false
is_missing (Err refusals.Missing) = true
is_missing (Err refusal) = false

-- A file that sshd reads, if there is one, leads to this. No pipe is waited for.
pub data IsAt (Knows : Fact → Type 0) (name : FileName) (visits : List Visit) : Type 0 where
  missing : (found : Result Found Refusal) → Knows (Leads name.shown true found)
      → is_missing found ≡ true → visits ≡ [] → IsAt Knows name visits
  there : (target : Result Found Refusal) → Knows (Leads name.shown true target)
      → is_missing target ≡ false → VisitsTarget Knows name true true target visits
      → IsAt Knows name visits

-- A host key leads to this: to the file of its public key, or, where there is none, to its own.
pub data IsHostKey (Knows : Fact → Type 0) (path : List ℕ) (visits : List Visit) : Type 0 where
  public : (target : Result Found Refusal) → Knows (Leads (public_path path) true target)
      → is_missing target ≡ false
      → VisitsTarget Knows (own_name (public_path path)) true true target visits
      → IsHostKey Knows path visits
  private : (found : Result Found Refusal) → Knows (Leads (public_path path) true found)
      → is_missing found ≡ true → IsAt Knows (own_name path) visits → IsHostKey Knows path visits

-- a byte of a path that is expanded, or escapes one (glob(7))
abbrev pub is_wildcard : ℕ → Bool
is_wildcard byte = byte == 42 || (byte == 63 || (byte == 91 || byte == 92))

-- sshd may read other files than the one at this path: since OpenSSH 10 it expands wildcards
abbrev pub has_wildcards : List ℕ → Bool
has_wildcards path = list_any is_wildcard path

-- Lines of keys at a path lead to this. A path with wildcards is not read.
abbrev pub IsKeysAt : (Fact → Type 0) → (wildcards : Bool) → List ℕ → List Visit → Type 0
IsKeysAt Knows true path visits = visits ≡ refused path refusals.Wildcards
IsKeysAt Knows false path visits = IsAt Knows (as_keys path) visits

-- a command that sshd runs for keys, as it is named
abbrev pub command_name : List ℕ → List ℕ
command_name command = codes "AuthorizedKeysCommand " ++ command

-- What a path leads to, by what sshd reads there. The output of a command is read like a path that
-- the command line names. No command is run.
abbrev pub IsSoughtAs : (Fact → Type 0) → SshdFileKind → List ℕ → List Visit → Type 0
IsSoughtAs Knows sshd.Keys path visits = IsKeysAt Knows (has_wildcards path) path visits
IsSoughtAs Knows sshd.HostKey path visits = IsHostKey Knows path visits
IsSoughtAs Knows sshd.Command path visits =
    visits ≡ refused (command_name path) refusals.NotAsked
IsSoughtAs Knows sshd.Output path visits = IsWaiting Knows (as_keys path) visits

-- A path where sshd reads this leads to these visits.
pub data IsSoughtAt (Knows : Fact → Type 0) (kind : SshdFileKind) (path : List ℕ) (whole : Bool)
    (visits : List Visit) : Type 0 where
  long_name : most_name < length path
      → visits ≡ refused (visible_bytes false (take most_name path)) refusals.LongName
      → IsSoughtAt Knows kind path whole visits
  no_text : length path ≤ most_name → (IsUtf8 path → ⊥)
      → visits ≡ refused (visible_bytes false path) refusals.Open
      → IsSoughtAt Knows kind path whole visits
  here : length path ≤ most_name → IsUtf8 path → IsSoughtAs Knows kind path visits
      → IsSoughtAt Knows kind path whole visits
  before_path : whole ≡ false → visits ≡ [] → IsSoughtAt Knows kind path whole visits

-- A file that sshd reads leads to these visits.
abbrev pub IsSought : (Fact → Type 0) → (whole : Bool) → SshdFile → List Visit → Type 0
IsSought Knows whole file visits = IsSoughtAt Knows file.kind file.path.items whole visits
