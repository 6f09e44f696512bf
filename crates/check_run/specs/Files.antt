-- The conditions for the keys of files.
use Rattle.std.specs.Borrow.{Bor}
use Rattle.std.specs.Prelude.{◌≡◌, ℕ, ◌||◌, not, Bool, List, [], ◌++◌, map, OnOk, Result, is_err}
use Rattle.std.specs.List.{flat_map, list_any}
use Rattle.run_faults.specs.RunFault.{RunFault}
use Rattle.run_output.specs.Printer.{Printer}
use Rattle.run_output.specs.Run.{Item, Passed}
use Rattle.krl_types.specs.Subject.{Subject}
use Rattle.krl_entries.specs.declared.reasons.Reasons.{Reasons}
use Rattle.audit_text.specs.declared.format.Format.{Format}
use Rattle.audit_lines.specs.declared.why.Refusal.{Refusal}
use Rattle.krl_arguments.specs.declared.task.Check.{Check}
use Rattle.list_conditions.specs.Check.{counts_of, keys_items}
use Rattle.list_conditions.specs.Role.{is_met}
use Rattle.list_conditions.specs.declared.role.Role.{Role}
use Rattle.list_conditions.specs.declared.role.Role.TheVariants.{Canary, Keep}
use Rattle.any_list.specs.Told.{KeysRead, Reading}
use Rattle.check_run.specs.Lists.{Checks}

-- a file that the user names, and what the list must do to its keys
pub record Named : Type 0 where
  pub role : Role
  pub name : List ℕ

abbrev pub named : Role → List ℕ → Named
named role name = record { role = role; name = name }

unfoldable pub named_all : Role → List (Bor (List ℕ)) → List Named
named_all role names = map (λ (name : Bor (List ℕ)). named role name.now) names

-- the files of keys that a task names, in their order
abbrev pub files_of : Check → List Named
files_of task = named_all Keep task.keep.items ++ named_all Canary task.canary.items

-- A file that was read: its content, or why it has none.
pub record Read : Type 0 where
  pub file : Named
  pub content : Result (List ℕ) Refusal

abbrev pub fact_read : Read → Reading
fact_read read = KeysRead read.file.name read.content

-- The files up to some file were read, once each and in this order, and these are their contents.
-- The later ones were not read.
pub record AreRead (told : List Reading) (files : List Named) (reads : List Read)
    (later : List Named) : Type 0 where
  pub files_are : files ≡ map (λ (read : Read). read.file) reads ++ later
  pub told_are : told ≡ map fact_read reads

-- ---- what is printed, and what fails

abbrev pub read_items : Format → (Subject → Reasons) → Read → List Item
read_items form reasons read =
    keys_items form read.file.role reasons read.file.name read.content

abbrev pub read_fails : (Subject → Reasons) → Read → Bool
read_fails reasons read =
    not (is_met read.file.role (counts_of reasons read.file.name read.content))

abbrev pub is_unread : Read → Bool
is_unread read = is_err read.content

-- nothing is printed for a file that was not reached
abbrev pub passed : Named → Item
passed file = Passed file.name

unfoldable pub reads_items : Format → (Subject → Reasons) → List Read → (later : List Named)
    → List Item
reads_items form reasons reads later = flat_map (read_items form reasons) reads ++ map passed later

unfoldable pub reads_fail : (Subject → Reasons) → List Read → Bool
reads_fail reasons reads = list_any (read_fails reasons) reads

unfoldable pub some_unread : List Read → Bool
some_unread reads = list_any is_unread reads

-- The keys of the files were checked, or the check was stopped within them.
pub record ChecksFiles (told : List Reading) (form : Format) (reasons : Subject → Reasons)
    (files : List Named) (result : Result (Unit {0}) RunFault)
    (old new : Printer) (before after : Bool) (unread_before unread_after : Bool) : Type 0 where
  pub reads : List Read
  pub later : List Named
  pub are_read : AreRead told files reads later
  pub checks
      : Checks (reads_items form reasons reads later) (reads_fail reasons reads) result old new
      before after
  pub unread : OnOk result (unread_after ≡ (unread_before || some_unread reads))
  pub all : OnOk result (later ≡ [])
