-- The conditions for the list itself.
use Rattle.std.specs.Borrow.{Bor}
use Rattle.std.specs.Prelude.{◌≡◌, ℕ, ◌||◌, ◌&&◌, nat_lt, not, Bool, true, false, List, [], ◌∷◌}
use Rattle.std.specs.Prelude.{◌++◌, Option, Some, None, Result, Ok, OnOk, length}
use Rattle.std.specs.Prelude.{if◌then◌else◌}
use Rattle.run_faults.specs.RunFault.{RunFault}
use Rattle.run_output.specs.Carries.{Carries}
use Rattle.run_output.specs.Printer.{Printer}
use Rattle.run_output.specs.Run.{Item, Passed}
use Rattle.krl_format.specs.declared.header.Header.{Header}
use Rattle.krl_types.specs.Entry.{Entry}
use Rattle.krl_entries.specs.Revocations.{Revocations}
use Rattle.krl_format.specs.declared.header.Stated.{Stated}
use Rattle.audit_text.specs.declared.format.Format.{Format}
use Rattle.krl_openssh.specs.Fields.{IsFirstDifference}
use Rattle.krl_openssh.specs.declared.difference.Difference.{Difference}
use Rattle.list_conditions.specs.Check.{condition_items}
use Rattle.list_conditions.specs.Condition.{fails, is_fresh}
use Rattle.list_conditions.specs.declared.condition.Condition.{Condition}
use Rattle.list_conditions.specs.declared.condition.Condition.TheVariants.{Age, Empty, NoDate}
use Rattle.list_conditions.specs.declared.condition.Condition.TheVariants.{NoVersion, OpenSsh, Slow}
use Rattle.list_conditions.specs.declared.condition.Condition.TheVariants.{OpenSshLines, Sshd}
use Rattle.list_conditions.specs.declared.condition.Condition.TheVariants.{Version}
use Rattle.plain_list.specs.Any.{Names, begins_list}
use Rattle.plain_list.specs.Dsa.{IsFirstDsa}
use Rattle.plain_list.specs.List.{lines_of}
use Rattle.plain_list.specs.declared.dsa.DsaLine.{DsaLine}
use Rattle.any_list.specs.List.{IsRefused, stated_by}
use Rattle.any_list.specs.Told.{ListRead, Reading}
use Rattle.check_run.specs.Losses.{losses_fail, losses_items}
use Rattle.check_run.specs.declared.limits.AgeLimit.{AgeLimit}
use Rattle.check_run.specs.declared.limits.Limits.{Limits}
use Rattle.check_run.specs.declared.limits.Used.{Used}
use Rattle.check_run.specs.declared.lists.Other.{Other}

abbrev pub version_of : Option Stated → Option ℕ
version_of (Some stated) = Some stated.version
version_of None = None

-- ---- the list of `--newer-than`

-- The file of this name was read once, and the other list has this name and this version.
pub record IsOther (told : List Reading) (name : List ℕ) (other : Other) : Type 0 where
  pub bytes : List ℕ
  pub header : Option Header
  pub entries : List Entry
  pub told_is : told ≡ ListRead name (Ok bytes) ∷ []
  pub names : Names bytes header entries
  pub name_is : other.name.now ≡ name
  pub version_is : other.version ≡ version_of (stated_by header)

abbrev pub IsOtherOf : List Reading → Option (Bor (List ℕ)) → Option Other → Type 0
IsOtherOf told None other = (told ≡ []) × (other ≡ None)
IsOtherOf told (Some name) None = ⊥
IsOtherOf told (Some name) (Some other) = IsOther told name.now other

abbrev pub IsOtherRefused : List Reading → Option (Bor (List ℕ)) → RunFault → Type 0
IsOtherRefused told None stop = ⊥
IsOtherRefused told (Some name) stop = IsRefused told name.now stop

-- ---- a condition

-- Exactly these items were printed, and the condition failed or held; or the check was stopped.
pub record Checks (items : List Item) (fails : Bool) (result : Result (Unit {0}) RunFault)
    (old new : Printer) (before after : Bool) : Type 0 where
  pub carries : Carries items result old new
  pub refused : OnOk result (after ≡ (before || fails))

-- ---- the format

-- The condition for the first difference of a key revocation list, or for the first line of a plain
-- list with DSA.
abbrev pub IsFormatIf : Bool → List ℕ → Condition → Type 0
IsFormatIf true bytes condition =
    (difference : Option Difference) × IsFirstDifference bytes difference
    × (condition ≡ OpenSsh difference)
IsFormatIf false bytes condition =
    (line : Option DsaLine) × IsFirstDsa (lines_of bytes) line × (condition ≡ OpenSshLines line)

abbrev pub IsFormat : List ℕ → Condition → Type 0
IsFormat bytes condition = IsFormatIf (begins_list bytes) bytes condition

-- There may be no memory to read the lines of a plain list again.
abbrev pub format_items : Format → List ℕ → Condition → List Item
format_items form name (OpenSshLines line) =
    Passed name ∷ condition_items form name (OpenSshLines line)
format_items form name condition = condition_items form name condition

-- The lines of a plain list were checked.
pub record ChecksLines (form : Format) (name bytes : List ℕ) (result : Result (Unit {0}) RunFault)
    (old new : Printer) (before after : Bool) : Type 0 where
  pub line : Option DsaLine
  pub is_first : IsFirstDsa (lines_of bytes) line
  pub checks : Checks (format_items form name (OpenSshLines line)) (fails (OpenSshLines line))
      result old new before after

-- The format of a list was checked.
pub record ChecksFormat (form : Format) (name bytes : List ℕ) (result : Result (Unit {0}) RunFault)
    (old new : Printer) (before after : Bool) : Type 0 where
  pub format : Condition
  pub is : IsFormat bytes format
  pub checks : Checks (format_items form name format) (fails format) result old new before after

-- ---- lists that revoke nobody

abbrev pub empty_fails : (nobody allow_empty : Bool) → Bool
empty_fails nobody allow_empty = not allow_empty && nobody

abbrev pub empty_items : Format → List ℕ → (nobody allow_empty : Bool) → List Item
empty_items form name nobody allow_empty =
    if allow_empty then [] else condition_items form name (Empty nobody)

-- ---- lists of many certificate authorities

abbrev pub most_cas : Option ℕ → ℕ
most_cas None = 4_000
most_cas (Some most) = most

abbrev pub slow_of : Revocations → Option ℕ → Condition
slow_of held max_cas = Slow (length held.sections) (most_cas max_cas)

-- ---- the version

-- a plain list has no version
abbrev pub items_beside : Format → List ℕ → Option ℕ → (other : List ℕ) → Option ℕ → List Item
items_beside form name (Some version) other (Some least) =
    condition_items form name (Version version least)
items_beside form name (Some version) other None = condition_items form other NoVersion
items_beside form name None other least = condition_items form name NoVersion

abbrev pub versions_items : Format → List ℕ → Option ℕ → Option Other → List Item
versions_items form name version None = []
versions_items form name version (Some other) =
    items_beside form name version other.name.now other.version

abbrev pub fails_beside : Option ℕ → Option ℕ → Bool
fails_beside (Some version) (Some least) = nat_lt version least
fails_beside (Some version) None = true
fails_beside None least = true

abbrev pub versions_fail : Option ℕ → Option Other → Bool
versions_fail version None = false
versions_fail version (Some other) = fails_beside version other.version

-- ---- the age

-- a plain list has no date
abbrev pub limited_items : Format → List ℕ → Option Stated → AgeLimit → List Item
limited_items form name (Some stated) limit =
    condition_items form name (Age stated.generated limit.now limit.max_age)
limited_items form name None limit = condition_items form name NoDate

abbrev pub ages_items : Format → List ℕ → Option Stated → Option AgeLimit → List Item
ages_items form name stated None = []
ages_items form name stated (Some limit) = limited_items form name stated limit

abbrev pub limit_fails : Option Stated → AgeLimit → Bool
limit_fails (Some stated) limit = not (is_fresh stated.generated limit.now limit.max_age)
limit_fails None limit = true

abbrev pub ages_fail : Option Stated → Option AgeLimit → Bool
ages_fail stated None = false
ages_fail stated (Some limit) = limit_fails stated limit

-- ---- the sshd that must use it

abbrev pub sshds_items : Format → List ℕ → Option Used → List Item
sshds_items form name None = []
sshds_items form name (Some used) = condition_items form name (Sshd used.output used.found)

abbrev pub sshds_fail : Option Used → Bool
sshds_fail None = false
sshds_fail (Some used) = fails (Sshd used.output used.found)

-- ---- all that is limited

abbrev pub limits_items : Format → List ℕ → Option Stated → Limits → List Item
limits_items form name stated limits =
    versions_items form name (version_of stated) limits.other
    ++ (ages_items form name stated limits.age
    ++ (losses_items form name limits.lost.now ++ sshds_items form name limits.sshd))

abbrev pub limits_fail : Option Stated → Limits → Bool
limits_fail stated limits =
    versions_fail (version_of stated) limits.other
    || (ages_fail stated limits.age
    || (losses_fail limits.lost.now || sshds_fail limits.sshd))
