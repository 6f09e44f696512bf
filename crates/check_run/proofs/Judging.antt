-- The conditions for the list itself, and then those for files.
use Rattle.std.proofs.Common.{◌≡◌, ℕ, ◌||◌, Bool, true, false, List, [], ◌++◌, Option, Result, Ok, Err, refl, sym, ap, subst, ◌∙◌}
use Rattle.std.specs.Prelude.{◌↔◌, OnOk, length}
use Rattle.run_faults.specs.RunFault.{RunFault}
use Rattle.run_output.specs.Carries.{Carries}
use Rattle.run_output.specs.Printer.{Printer}
use Rattle.run_output.specs.Run.{Item}
use Rattle.krl_types.specs.Entry.{Entry}
use Rattle.krl_entries.specs.Reasons.{reasons_of}
use Rattle.krl_entries.specs.Revocations.{Revocations}
use Rattle.krl_format.specs.declared.header.Stated.{Stated}
use Rattle.audit_text.specs.declared.format.Format.{Format}
use Rattle.krl_arguments.specs.declared.task.Check.{Check}
use Rattle.list_conditions.specs.Authorities.{HasAuthorities}
use Rattle.list_conditions.specs.Check.{NamesNobody, condition_items, end_items, names_nobody}
use Rattle.list_conditions.specs.Condition.{fails}
use Rattle.list_conditions.specs.declared.condition.Condition.{Condition}
use Rattle.any_list.specs.List.{IsReadList, stated_by}
use Rattle.any_list.specs.declared.list.List.{List as ListOf}
use Rattle.any_list.specs.Told.{Reading}
use Rattle.check_run.specs.Files.{AreRead, ChecksFiles, Named, Read, files_of, reads_fail, reads_items, some_unread}
use Rattle.check_run.specs.Lists.{Checks, ChecksFormat, IsFormat, empty_fails, empty_items, limits_fail, limits_items, slow_of}
use Rattle.check_run.specs.Run.{ChecksAll, ChecksList, IsChecked, Judged, form_of, list_fails, list_items}
use Rattle.check_run.specs.declared.limits.Limits.{Limits}
use Rattle.check_run.proofs.Steps.{checks_more, checks_of, checks_then, on_ok, on_ok_or, or_false}

abbrev EmptyChecks : Format → (name : List ℕ) → Revocations → Check → Result (Unit {0}) RunFault → Printer → Printer → Bool → Bool → Type 0
EmptyChecks form name held task = Checks (empty_items form name (names_nobody held) task.allow_empty) (empty_fails (names_nobody held) task.allow_empty)

abbrev SlowChecks : Format → (name : List ℕ) → Revocations → Check → Result (Unit {0}) RunFault → Printer → Printer → Bool → Bool → Type 0
SlowChecks form name held task = Checks (condition_items form name (slow_of held task.max_cas)) (fails (slow_of held task.max_cas))

abbrev StatedChecks : Format → (name : List ℕ) → Option Stated → Limits → Result (Unit {0}) RunFault → Printer → Printer → Bool → Bool → Type 0
StatedChecks form name stated limits = Checks (limits_items form name stated limits) (limits_fail stated limits)

-- ---- the list itself

-- what is judged, by the condition for its format
abbrev judged_by : Condition → Option Stated → Revocations → Limits → Judged
judged_by format stated held limits = record { format = format; nobody = names_nobody held; authorities = length held.sections; stated = stated; limits = limits }

abbrev AllChecks : Condition → Format → (name : List ℕ) → Option Stated → Revocations → Check → Limits → Result (Unit {0}) RunFault → Printer → Printer → Bool → Bool → Type 0
AllChecks format form name stated held task limits = Checks (list_items form name (judged_by format stated held limits) task) (list_fails (judged_by format stated held limits) task)

list_by : (form : Format) (name bytes : List ℕ) (stated : Option Stated) (held : Revocations) (task : Check) (limits : Limits) (result : Result (Unit {0}) RunFault) (p q : Printer) (a b : Bool) (format : Condition) → IsFormat bytes format
    → AllChecks format form name stated held task limits result p q a b → ChecksList form name bytes stated held task limits result p q a b
list_by form name bytes stated held task limits result p q a b format is checks = record {
  list = judged_by format stated held limits;
  is_format = is;
  nobody_is = refl;
  authorities_is = refl;
  stated_is = refl;
  limits_are = refl;
  checks = checks;
}

pub list_checked : (form : Format) (name bytes : List ℕ) (stated : Option Stated) (held : Revocations) (task : Check) (limits : Limits) (u v w : Unit {0}) (result : Result (Unit {0}) RunFault) (p q r s t : Printer) (a b c d e : Bool)
    → ChecksFormat form name bytes (Ok u) p q a b → EmptyChecks form name held task (Ok v) q r b c → SlowChecks form name held task (Ok w) r s c d → StatedChecks form name stated limits result s t d e
    → ChecksList form name bytes stated held task limits result p t a e
list_checked form name bytes stated held task limits u v w result p q r s t a b c d e format empty slow last =
    list_by form name bytes stated held task limits result p t a e format.format format.is
    (checks_then _ _ _ _ u result p q t a b e format.checks (checks_then _ _ _ _ v result q r t b c e empty (checks_then _ _ _ _ w result r s t c d e slow last)))

pub format_stops : (form : Format) (name bytes : List ℕ) (stated : Option Stated) (held : Revocations) (task : Check) (limits : Limits) (stop : RunFault) (p q : Printer) (a b e : Bool)
    → ChecksFormat form name bytes (Err stop) p q a b → ChecksList form name bytes stated held task limits (Err stop) p q a e
format_stops form name bytes stated held task limits stop p q a b e format =
    list_by form name bytes stated held task limits (Err stop) p q a e format.format format.is (checks_more _ _ _ _ stop p q a b e format.checks)

pub empty_stops : (form : Format) (name bytes : List ℕ) (stated : Option Stated) (held : Revocations) (task : Check) (limits : Limits) (u : Unit {0}) (stop : RunFault) (p q r : Printer) (a b c e : Bool)
    → ChecksFormat form name bytes (Ok u) p q a b → EmptyChecks form name held task (Err stop) q r b c → ChecksList form name bytes stated held task limits (Err stop) p r a e
empty_stops form name bytes stated held task limits u stop p q r a b c e format empty =
    list_by form name bytes stated held task limits (Err stop) p r a e format.format format.is
    (checks_then _ _ _ _ u (Err stop) p q r a b e format.checks (checks_more _ _ _ _ stop q r b c e empty))

pub slow_stops : (form : Format) (name bytes : List ℕ) (stated : Option Stated) (held : Revocations) (task : Check) (limits : Limits) (u v : Unit {0}) (stop : RunFault) (p q r s : Printer) (a b c d e : Bool)
    → ChecksFormat form name bytes (Ok u) p q a b → EmptyChecks form name held task (Ok v) q r b c → SlowChecks form name held task (Err stop) r s c d → ChecksList form name bytes stated held task limits (Err stop) p s a e
slow_stops form name bytes stated held task limits u v stop p q r s a b c d e format empty slow =
    list_by form name bytes stated held task limits (Err stop) p s a e format.format format.is
    (checks_then _ _ _ _ u (Err stop) p q s a b e format.checks (checks_then _ _ _ _ v (Err stop) q r s b c e empty (checks_more _ _ _ _ stop r s c d e slow)))

-- ---- the list and the files

-- the laws of a list that was read: whether it revokes nobody, and how many authorities it has
pub record ListLaws (held : Revocations) (entries : List Entry) : Type 0 where
  pub nobody : names_nobody held ≡ true ↔ NamesNobody entries
  pub authorities : HasAuthorities entries (length held.sections)

authorities_as : (count : ℕ) (held : Revocations) (entries : List Entry) → count ≡ length held.sections → HasAuthorities entries (length held.sections) → HasAuthorities entries count
authorities_as count held entries is law = subst (λ (n : ℕ). HasAuthorities entries n) (sym is) law

nobody_as : (nobody : Bool) (held : Revocations) (entries : List Entry) → nobody ≡ names_nobody held → (names_nobody held ≡ true ↔ NamesNobody entries) → (nobody ≡ true ↔ NamesNobody entries)
nobody_as nobody held entries is law = subst (λ (b : Bool). b ≡ true ↔ NamesNobody entries) (sym is) law

on_ok_all : (result : Result (Unit {0}) RunFault) (later : List Named) → later ≡ [] → OnOk result (later ≡ [])
on_ok_all (Ok done) later is = is
on_ok_all (Err stop) later is = tt

-- the last line, which says whether a condition failed
ended : (form : Format) (name : List ℕ) (result : Result (Unit {0}) RunFault) (old new : Printer) (before after fails : Bool) → before ≡ fails → after ≡ before → Carries (end_items form name before) result old new
    → Checks (end_items form name fails) false result old new before after
ended form name result old new before after fails is kept carries =
    checks_of (end_items form name fails) false result old new before after (subst (λ (b : Bool). Carries (end_items form name b) result old new) is carries) (kept ∙ or_false before)

-- what is known of the list and of the files
judged : (told : List Reading) (form : Format) (name bytes : List ℕ) (list : ListOf) (held : Revocations) (task : Check) (limits : Limits) (first : Judged) (read : IsReadList name bytes list) (reads : List Read) (later : List Named)
    → form ≡ form_of task → ListLaws held read.entries → IsFormat bytes first.format → first.nobody ≡ names_nobody held → first.authorities ≡ length held.sections → first.stated ≡ stated_by list.header → first.limits ≡ limits → AreRead told (files_of task) reads later
    → IsChecked told name bytes task limits (list_items form name first task ++ (reads_items form (reasons_of read.entries) reads later ++ end_items form name (list_fails first task || reads_fail (reasons_of read.entries) reads)))
    (list_fails first task || reads_fail (reasons_of read.entries) reads) (some_unread reads) later
judged told form name bytes list held task limits first read reads later is law format nobody authorities stated limited are = record {
  header = list.header;
  entries = read.entries;
  names = read.named;
  list = first;
  is_format = format;
  is_nobody = nobody_as first.nobody held read.entries nobody law.nobody;
  are_counted = authorities_as first.authorities held read.entries authorities law.authorities;
  stated_is = stated;
  limits_are = limited;
  reads = reads;
  are_read = are;
  items_are = rw is refl;
  fails_is = refl;
  unread_is = refl;
}

pub all_checked : (told : List Reading) (form : Format) (name bytes : List ℕ) (list : ListOf) (held : Revocations) (task : Check) (limits : Limits) (value files_value : Unit {0}) (result : Result (Unit {0}) RunFault) (p q r s : Printer) (b c d u w x : Bool)
    → form ≡ form_of task → (read : IsReadList name bytes list) → ListLaws held read.entries → ChecksList form name bytes (stated_by list.header) held task limits (Ok value) p q false b
    → ChecksFiles told form (reasons_of read.entries) (files_of task) (Ok files_value) q r b c u w → u ≡ false → Carries (end_items form name c) result r s → d ≡ c → x ≡ w → ChecksAll told name bytes task limits result p s d x
all_checked told form name bytes list held task limits value files_value result p q r s b c d u w x is read law first files working last kept same =
    let reasons = reasons_of read.entries in
    let fails : Bool = list_fails first.list task || reads_fail reasons files.reads in
    let items : List Item = reads_items form reasons files.reads files.later in
    let failed : c ≡ fails = files.checks.refused ∙ ap (λ (y : Bool). y || reads_fail reasons files.reads) first.checks.refused in
    let two : Checks (items ++ end_items form name fails) (reads_fail reasons files.reads || false) result q s b d = checks_then items (end_items form name fails) (reads_fail reasons files.reads) false files_value result q r s b c d files.checks (ended form name result r s c d fails failed kept last) in
    let all = checks_then (list_items form name first.list task) (items ++ end_items form name fails) (list_fails first.list task) (reads_fail reasons files.reads || false) value result p q s false b d first.checks two in
    record {
      items = list_items form name first.list task ++ (items ++ end_items form name fails);
      fails = fails;
      some = some_unread files.reads;
      later = files.later;
      is = judged told form name bytes list held task limits first.list read files.reads files.later is law first.is_format first.nobody_is first.authorities_is first.stated_is first.limits_are files.are_read;
      checks = record { carries = all.carries; refused = on_ok_or result d _ fails (ap (λ (y : Bool). list_fails first.list task || y) (sym (or_false (reads_fail reasons files.reads)))) all.refused };
      unread_is = on_ok result x (some_unread files.reads) (same ∙ subst (λ (y : Bool). w ≡ (y || some_unread files.reads)) working files.unread);
      all = on_ok_all result files.later files.all;
    }

pub files_stop : (told : List Reading) (form : Format) (name bytes : List ℕ) (list : ListOf) (held : Revocations) (task : Check) (limits : Limits) (value : Unit {0}) (stop : RunFault) (p q r : Printer) (b c d u w x : Bool)
    → form ≡ form_of task → (read : IsReadList name bytes list) → ListLaws held read.entries → ChecksList form name bytes (stated_by list.header) held task limits (Ok value) p q false b
    → ChecksFiles told form (reasons_of read.entries) (files_of task) (Err stop) q r b c u w → ChecksAll told name bytes task limits (Err stop) p r d x
files_stop told form name bytes list held task limits value stop p q r b c d u w x is read law first files =
    let reasons = reasons_of read.entries in
    let fails : Bool = list_fails first.list task || reads_fail reasons files.reads in
    let items : List Item = reads_items form reasons files.reads files.later in
    let two : Checks (items ++ end_items form name fails) fails (Err stop) q r b d = checks_more items (end_items form name fails) (reads_fail reasons files.reads) fails stop q r b c d files.checks in
    let all = checks_then (list_items form name first.list task) (items ++ end_items form name fails) (list_fails first.list task) fails value (Err stop) p q r false b d first.checks two in
    record {
      items = list_items form name first.list task ++ (items ++ end_items form name fails);
      fails = fails;
      some = some_unread files.reads;
      later = files.later;
      is = judged told form name bytes list held task limits first.list read files.reads files.later is law first.is_format first.nobody_is first.authorities_is first.stated_is first.limits_are files.are_read;
      checks = record { carries = all.carries; refused = tt };
      unread_is = tt;
      all = tt;
    }

pub list_stops : (form : Format) (name bytes : List ℕ) (list : ListOf) (held : Revocations) (task : Check) (limits : Limits) (stop : RunFault) (p q : Printer) (b c w : Bool)
    → form ≡ form_of task → (read : IsReadList name bytes list) → ListLaws held read.entries → ChecksList form name bytes (stated_by list.header) held task limits (Err stop) p q false b → ChecksAll [] name bytes task limits (Err stop) p q c w
list_stops form name bytes list held task limits stop p q b c w is read law first =
    let reasons = reasons_of read.entries in
    let files = files_of task in
    let fails : Bool = list_fails first.list task || reads_fail reasons [] in
    let rest : List Item = reads_items form reasons [] files ++ end_items form name fails in
    record {
      items = list_items form name first.list task ++ rest;
      fails = fails;
      some = some_unread [];
      later = files;
      is = judged [] form name bytes list held task limits first.list read [] files is law first.is_format first.nobody_is first.authorities_is first.stated_is first.limits_are (record { files_are = refl; told_are = refl });
      checks = checks_more (list_items form name first.list task) rest (list_fails first.list task) fails stop p q false b c first.checks;
      unread_is = tt;
      all = tt;
    }
