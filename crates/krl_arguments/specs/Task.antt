-- The tasks that words ask for (krl(1), SYNOPSIS).
use Rattle.std.specs.Prelude.{ℕ, ◌&&◌, ◌||◌, Bool, not, List, [], ◌∷◌, codes, filter, is_some}
use Rattle.std.specs.Prelude.{length, map, nat_eq, nat_lt, Option, Some, None, Result, Ok, Err}
use Rattle.std.specs.Prelude.{option_and_then, option_map, if◌then◌else◌}
use Rattle.std.specs.List.{list_any}
use Rattle.std.specs.Str.{bytes_eq}
use Rattle.clap.specs.Simple.{subcommand_of}
use Rattle.clap.specs.Walk.{Row, first_of, is_empty}
use Rattle.option_table.specs.Value.{is_set, values_in}
use Rattle.krl_arguments.specs.Duration.{duration_of}
use Rattle.krl_arguments.specs.Inputs.{reads_twice}
use Rattle.krl_arguments.specs.Making.{Make, make_by, make_of}
use Rattle.krl_arguments.specs.Misuse.{result_map}
use Rattle.krl_arguments.specs.Number.{count_at, is_wrong}
use Rattle.krl_arguments.specs.Options.{program}
use Rattle.krl_arguments.specs.declared.misuse.Misuse.{Misuse}
use Rattle.krl_arguments.specs.declared.misuse.Misuse.TheVariants as misuses
use Rattle.krl_arguments.specs.declared.task.Audit.{Audit as AuditOf}
use Rattle.krl_arguments.specs.declared.task.Check.{Check as CheckOf}
use Rattle.krl_arguments.specs.declared.task.Diff.{Diff as DiffOf}
use Rattle.krl_arguments.specs.declared.task.Logins.{Logins as LoginsOf}
use Rattle.krl_arguments.specs.declared.task.Show.{Show as ShowOf}
use Rattle.krl_arguments.specs.declared.task.Task.{Task as TaskOf}
use Rattle.krl_arguments.specs.declared.task.Task.TheVariants as tasks

-- an audit: the list, the texts, whether -a, --all, --scan, -q and --json are given, the text before
-- each name, whether -x is given, the canaries, the names that are excluded, the file of names, the
-- outputs of sshd -T, the file of users, the outputs of sshd's command, and the files
pub record Audit : Type 0 where
  pub list : Option (List ℕ)
  pub texts : List (List ℕ)
  pub all : Bool
  pub every_file : Bool
  pub scan : Bool
  pub quiet : Bool
  pub json : Bool
  pub label : Option (List ℕ)
  pub one_file_system : Bool
  pub canary : List (List ℕ)
  pub exclude : List (List ℕ)
  pub names_from : Option (List ℕ)
  pub sshd : List (List ℕ)
  pub passwd : Option (List ℕ)
  pub command_output : List (List ℕ)
  pub files : List (List ℕ)

-- a search for logins: the list, the texts, whether -a, -q and --json are given, and the logs
pub record Logins : Type 0 where
  pub list : Option (List ℕ)
  pub texts : List (List ℕ)
  pub all : Bool
  pub quiet : Bool
  pub json : Bool
  pub files : List (List ℕ)

-- a check: the list, its conditions, whether --json is given, the texts of --names, and whether
-- only its version is printed
pub record Check : Type 0 where
  pub list : List ℕ
  pub newer_than : Option (List ℕ)
  pub superset_of : Option (List ℕ)
  pub max_age : Option ℕ
  pub max_cas : Option ℕ
  pub sshd : Option (List ℕ)
  pub keep : List (List ℕ)
  pub canary : List (List ℕ)
  pub allow_empty : Bool
  pub json : Bool
  pub names : List (List ℕ)
  pub print_version : Bool

-- lists that are shown, whether --json and --no-name are given, and the texts of --names
pub record Show : Type 0 where
  pub lists : List (List ℕ)
  pub json : Bool
  pub no_name : Bool
  pub names : List (List ℕ)

-- two lists that are compared, whether --json is given, and the texts of --names
pub record Diff : Type 0 where
  pub old : List ℕ
  pub new : List ℕ
  pub json : Bool
  pub names : List (List ℕ)

pub data Task : Type 0 where
  AuditTask : Audit → Task
  LoginsTask : Logins → Task
  CheckTask : Check → Task
  ShowTask : Show → Task
  MakeTask : Make → Task
  DiffTask : Diff → Task

-- ---- the values of the words

abbrev pub audit_with : List Row → Audit
audit_with rows = record {
  list = first_of (codes "list") rows;
  texts = values_in (codes "texts") rows;
  all = is_set (codes "fine") rows;
  every_file = is_set (codes "all") rows;
  scan = is_set (codes "scan") rows;
  quiet = is_set (codes "quiet") rows;
  json = is_set (codes "json") rows;
  label = first_of (codes "label") rows;
  one_file_system = is_set (codes "one-file-system") rows;
  canary = values_in (codes "canary") rows;
  exclude = values_in (codes "exclude") rows;
  names_from = first_of (codes "files0-from") rows;
  sshd = values_in (codes "sshd") rows;
  passwd = first_of (codes "passwd") rows;
  command_output = values_in (codes "command-output") rows;
  files = values_in (codes "files") rows;
}

abbrev pub slash : ℕ
slash = 47

-- no entry of a directory has this name
abbrev pub is_no_name : List ℕ → Bool
is_no_name name =
    list_any (λ byte. nat_eq byte slash) name
    || (bytes_eq name [] || (bytes_eq name (codes ".") || bytes_eq name (codes "..")))

-- The audit, if a file, a directory, a file of names or an output of sshd -T is given.
abbrev pub if_any : Audit → Result Audit Misuse
if_any audit =
    if not (is_some audit.names_from) && (is_empty audit.files && is_empty audit.sshd)
    then Err misuses.NothingToAudit
    else Ok audit

-- The same, unless users or outputs of a command are given, and no output of sshd -T.
abbrev pub if_sshd : Audit → Result Audit Misuse
if_sshd audit =
    if is_empty audit.sshd && (is_some audit.passwd || not (is_empty audit.command_output))
    then Err misuses.WithoutSshd
    else if_any audit

-- The same, unless something that is excluded is no name.
abbrev pub if_names : Audit → Result Audit Misuse
if_names audit =
    if nat_lt 0 (length (filter is_no_name audit.exclude)) then Err misuses.ExcludesPath
    else if_sshd audit

-- The same, if a list, a text or an output of sshd -T is given.
abbrev pub if_list : Audit → Result Audit Misuse
if_list audit =
    if not (is_some audit.list) && (is_empty audit.texts && is_empty audit.sshd)
    then Err misuses.NoList
    else if_names audit

abbrev pub audit_of : List Row → Result Audit Misuse
audit_of rows = if_list (audit_with rows)

abbrev pub logins_with : List Row → Logins
logins_with rows = record {
  list = first_of (codes "list") rows;
  texts = values_in (codes "texts") rows;
  all = is_set (codes "fine") rows;
  quiet = is_set (codes "quiet") rows;
  json = is_set (codes "json") rows;
  files = values_in (codes "files") rows;
}

-- The search for logins, if a list or a text and a log are given.
abbrev pub if_searches : Logins → Result Logins Misuse
if_searches logins =
    if not (is_some logins.list) && is_empty logins.texts then Err misuses.NoList
    else if is_empty logins.files then Err misuses.NoLog
    else Ok logins

abbrev pub logins_of : List Row → Result Logins Misuse
logins_of rows = if_searches (logins_with rows)

-- the first of these names, if there is one
abbrev pub first_name : List (List ℕ) → List ℕ
first_name [] = []
first_name (name ∷ names) = name

-- The name of the list of an audit or of a search for logins: the one that is given, otherwise that
-- of the first text.
abbrev pub name_or_first : Option (List ℕ) → List (List ℕ) → List ℕ
name_or_first None texts = first_name texts
name_or_first (Some list) texts = list

-- the name of the list of an audit
abbrev pub list_name : Audit → List ℕ
list_name audit = name_or_first audit.list audit.texts

-- the seconds of --max-age, if it is given and is a duration
abbrev pub max_age_of : List Row → Option ℕ
max_age_of rows = option_and_then duration_of (first_of (codes "max-age") rows)

abbrev pub check_with : List Row → List ℕ → Check
check_with rows list = record {
  list = list;
  newer_than = first_of (codes "newer-than") rows;
  superset_of = first_of (codes "superset-of") rows;
  max_age = max_age_of rows;
  max_cas = count_at (codes "max-cas") rows;
  sshd = first_of (codes "sshd") rows;
  keep = values_in (codes "keep") rows;
  canary = values_in (codes "canary") rows;
  allow_empty = is_set (codes "allow-empty") rows;
  json = is_set (codes "json") rows;
  names = values_in (codes "names") rows;
  print_version = is_set (codes "print-version") rows;
}

-- no file is read but the list
abbrev pub reads_list_alone : Check → Bool
reads_list_alone check =
    not (is_some check.newer_than) && (not (is_some check.superset_of)
    && (not (is_some check.sshd)
    && (is_empty check.keep && (is_empty check.canary && is_empty check.names))))

-- there is neither a condition nor a form for them
abbrev pub has_only_version : Check → Bool
has_only_version check =
    reads_list_alone check && (not (is_some check.max_age) && (not (is_some check.max_cas)
    && (not check.allow_empty && not check.json)))

-- The check, unless its age is no duration, its number of CAs is no number, or its version is
-- requested together with a condition.
abbrev pub if_checks : List Row → Check → Result Check Misuse
if_checks rows check =
    if is_wrong (codes "max-age") check.max_age rows then Err misuses.WrongAge
    else if is_wrong (codes "max-cas") check.max_cas rows then Err misuses.WrongMost
    else if check.print_version && not (has_only_version check) then Err misuses.VersionAlone
    else Ok check

-- the check of this list
abbrev pub check_of_list : List Row → Option (List ℕ) → Result Check Misuse
check_of_list rows None = Err misuses.Incomplete
check_of_list rows (Some list) = if_checks rows (check_with rows list)

abbrev pub check_of : List Row → Result Check Misuse
check_of rows = check_of_list rows (first_of (codes "list") rows)

abbrev pub show_with : List Row → Show
show_with rows = record {
  lists = values_in (codes "lists") rows;
  json = is_set (codes "json") rows;
  no_name = is_set (codes "no-name") rows;
  names = values_in (codes "names") rows;
}

-- the comparison of these lists
abbrev pub diff_with : List Row → (old new : Option (List ℕ)) → Result Diff Misuse
diff_with rows (Some old) (Some new) = Ok (record {
  old = old;
  new = new;
  json = is_set (codes "json") rows;
  names = values_in (codes "names") rows;
})
diff_with rows None new = Err misuses.Incomplete
diff_with rows (Some old) None = Err misuses.Incomplete

abbrev pub diff_of : List Row → Result Diff Misuse
diff_of rows = diff_with rows (first_of (codes "old") rows) (first_of (codes "new") rows)

-- the task of the subcommand of this name
abbrev pub named_task : List ℕ → List Row → Result Task Misuse
named_task name rows =
    if bytes_eq name (codes "audit") then result_map AuditTask (audit_of rows)
    else if bytes_eq name (codes "logins") then result_map LoginsTask (logins_of rows)
    else if bytes_eq name (codes "check") then result_map CheckTask (check_of rows)
    else if bytes_eq name (codes "show") then Ok (ShowTask (show_with rows))
    else if bytes_eq name (codes "make") then result_map MakeTask (make_of rows)
    else if bytes_eq name (codes "diff") then result_map DiffTask (diff_of rows)
    else Err misuses.Incomplete

abbrev pub task_in : Option (List ℕ × List Row) → Result Task Misuse
task_in None = Err misuses.Incomplete
task_in (Some (name, rows)) =
    if reads_twice name rows then Err misuses.TwoInputs else named_task name rows

-- the subcommand that these words name, and its values, the program's name before them
unfoldable pub found_in : List (List ℕ) → Option (List ℕ × List Row)
found_in words = subcommand_of program words

-- ---- the same, in the types of the program

abbrev pub audit_by : AuditOf → Audit
audit_by audit = record {
  list = option_map (λ text. text.now) audit.list;
  texts = map (λ name. name.now) audit.texts.items;
  all = audit.all;
  every_file = audit.every_file;
  scan = audit.scan;
  quiet = audit.quiet;
  json = audit.json;
  label = option_map (λ text. text.now) audit.label;
  one_file_system = audit.one_file_system;
  canary = map (λ name. name.now) audit.canary.items;
  exclude = map (λ name. name.now) audit.exclude.items;
  names_from = option_map (λ text. text.now) audit.names_from;
  sshd = map (λ name. name.now) audit.sshd.items;
  passwd = option_map (λ text. text.now) audit.passwd;
  command_output = map (λ name. name.now) audit.command_output.items;
  files = map (λ name. name.now) audit.files.items;
}

abbrev pub logins_by : LoginsOf → Logins
logins_by logins = record {
  list = option_map (λ text. text.now) logins.list;
  texts = map (λ name. name.now) logins.texts.items;
  all = logins.all;
  quiet = logins.quiet;
  json = logins.json;
  files = map (λ name. name.now) logins.files.items;
}

abbrev pub check_by : CheckOf → Check
check_by check = record {
  list = check.list.now;
  newer_than = option_map (λ text. text.now) check.newer_than;
  superset_of = option_map (λ text. text.now) check.superset_of;
  max_age = check.max_age;
  max_cas = check.max_cas;
  sshd = option_map (λ text. text.now) check.sshd;
  keep = map (λ name. name.now) check.keep.items;
  canary = map (λ name. name.now) check.canary.items;
  allow_empty = check.allow_empty;
  json = check.json;
  names = map (λ name. name.now) check.names.items;
  print_version = check.print_version;
}

abbrev pub show_by : ShowOf → Show
show_by show = record {
  lists = map (λ name. name.now) show.lists.items;
  json = show.json;
  no_name = show.no_name;
  names = map (λ name. name.now) show.names.items;
}

abbrev pub diff_by : DiffOf → Diff
diff_by diff = record {
  old = diff.old.now;
  new = diff.new.now;
  json = diff.json;
  names = map (λ name. name.now) diff.names.items;
}

abbrev pub task_by : TaskOf → Task
task_by (tasks.Audit audit) = AuditTask (audit_by audit)
task_by (tasks.Logins logins) = LoginsTask (logins_by logins)
task_by (tasks.Check check) = CheckTask (check_by check)
task_by (tasks.Show show) = ShowTask (show_by show)
task_by (tasks.Make make) = MakeTask (make_by make)
task_by (tasks.Diff diff) = DiffTask (diff_by diff)
