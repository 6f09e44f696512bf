-- The keys of one file after another.
use Rattle.std.proofs.Common.{◌≡◌, ℕ, ◌<◌, ◌+◌, ◌||◌, Bool, List, [], ◌∷◌, ◌++◌, length, map, take, drop, get_or, Result, Ok, Err, refl, sym, ap, subst, ◌∙◌, append_assoc}
use Rattle.std.specs.Borrow.{Bor}
use Rattle.std.specs.Prelude.{OnOk, is_err}
use Rattle.std.specs.List.{flat_map}
use Rattle.std.proofs.lemmas.List.{append-nil, map-append, take_more, take-append-drop}
use Rattle.std.proofs.lemmas.List.Concat.{flat_map-append}
use Rattle.std.proofs.lemmas.List.Folds.{list_any-append}
use Rattle.run_faults.specs.RunFault.{RunFault, run_fault_of}
use Rattle.run_faults.specs.declared.cause.Cause.TheVariants.{NoMemory}
use Rattle.run_output.specs.Printer.{Printer}
use Rattle.run_output.specs.Run.{Item, Passed}
use Rattle.run_output.proofs.RunParts.{carries_more, carries_withheld}
use Rattle.krl_types.specs.Subject.{Subject}
use Rattle.krl_entries.specs.declared.reasons.Reasons.{Reasons}
use Rattle.audit_text.specs.declared.format.Format.{Format}
use Rattle.audit_lines.specs.declared.why.Refusal.{Refusal}
use Rattle.list_conditions.specs.Check.{ChecksFile}
use Rattle.list_conditions.specs.declared.role.Role.{Role}
use Rattle.any_list.specs.Told.{KeysRead, Reading}
use Rattle.check_run.specs.Files.{AreRead, ChecksFiles, Named, Read, fact_read, is_unread, named, named_all, passed, read_fails, read_items, reads_fail, reads_items, some_unread}
use Rattle.check_run.specs.Lists.{Checks}
use Rattle.check_run.proofs.Steps.{checks_none, checks_then, on_ok, on_ok_or, or_assoc, or_false}

-- ---- rows of files

abbrev file_of : Read → Named
file_of read = read.file

read_then : (told next : List Reading) (files others : List Named) (reads more : List Read) (later : List Named) → AreRead told files reads [] → AreRead next others more later → AreRead (told ++ next) (files ++ others) (reads ++ more) later
read_then told next files others reads more later first second = record {
  files_are =
      let front : files ≡ map file_of reads = first.files_are ∙ append-nil (map file_of reads) in
      ap (λ (fs : List Named). fs ++ others) front ∙ (ap (λ (fs : List Named). map file_of reads ++ fs) second.files_are
      ∙ (sym (append_assoc (map file_of reads) (map file_of more) later) ∙ ap (λ (fs : List Named). fs ++ later) (sym (map-append file_of reads more))));
  told_are = rw (first.told_are, second.told_are) (sym (map-append fact_read reads more));
}

read_stops : (told : List Reading) (files others : List Named) (reads : List Read) (later : List Named) → AreRead told files reads later → AreRead told (files ++ others) reads (later ++ others)
read_stops told files others reads later first = record {
  files_are = ap (λ (fs : List Named). fs ++ others) first.files_are ∙ append_assoc (map file_of reads) later others;
  told_are = first.told_are;
}

items_then : (form : Format) (reasons : Subject → Reasons) (reads more : List Read) (later : List Named) → reads_items form reasons (reads ++ more) later ≡ reads_items form reasons reads [] ++ reads_items form reasons more later
unfolding reads_items
items_then form reasons reads more later =
    let front : List Item = flat_map (read_items form reasons) reads in
    let back : List Item = flat_map (read_items form reasons) more in
    ap (λ (xs : List Item). xs ++ map passed later) (flat_map-append (read_items form reasons) reads more)
    ∙ (append_assoc front back (map passed later) ∙ ap (λ (xs : List Item). xs ++ (back ++ map passed later)) (sym (append-nil front)))

items_stop : (form : Format) (reasons : Subject → Reasons) (reads : List Read) (later others : List Named) → reads_items form reasons reads (later ++ others) ≡ reads_items form reasons reads later ++ map passed others
unfolding reads_items
items_stop form reasons reads later others =
    let front : List Item = flat_map (read_items form reasons) reads in
    ap (λ (xs : List Item). front ++ xs) (map-append passed later others) ∙ sym (append_assoc front (map passed later) (map passed others))

fail_then : (reasons : Subject → Reasons) (reads more : List Read) → (reads_fail reasons reads || reads_fail reasons more) ≡ reads_fail reasons (reads ++ more)
unfolding reads_fail
fail_then reasons reads more = sym (list_any-append (read_fails reasons) reads more)

unread_then : (reads more : List Read) → (some_unread reads || some_unread more) ≡ some_unread (reads ++ more)
unfolding some_unread
unread_then reads more = sym (list_any-append is_unread reads more)

-- ---- checks of rows of files

pub no_file : (form : Format) (reasons : Subject → Reasons) (now : Printer) (refused unread : Bool) → ChecksFiles [] form reasons [] (Ok tt) now now refused refused unread unread
unfolding reads_items reads_fail some_unread
no_file form reasons now refused unread = record {
  reads = [];
  later = [];
  are_read = record { files_are = refl; told_are = refl };
  checks = checks_none now refused;
  unread = or_false unread;
  all = refl;
}

pub files_then : (told next : List Reading) (form : Format) (reasons : Subject → Reasons) (files others : List Named) (value : Unit {0}) (result : Result (Unit {0}) RunFault) (old mid new : Printer) (a b c u v w : Bool)
    → ChecksFiles told form reasons files (Ok value) old mid a b u v → ChecksFiles next form reasons others result mid new b c v w → ChecksFiles (told ++ next) form reasons (files ++ others) result old new a c u w
files_then told next form reasons files others value result old mid new a b c u v w first second =
    let xs : List Item = reads_items form reasons first.reads [] in
    let ys : List Item = reads_items form reasons second.reads second.later in
    let read : AreRead told files first.reads [] = subst (λ (fs : List Named). AreRead told files first.reads fs) first.all first.are_read in
    let checks : Checks xs (reads_fail reasons first.reads) (Ok value) old mid a b =
    subst (λ (fs : List Named). Checks (reads_items form reasons first.reads fs) (reads_fail reasons first.reads) (Ok value) old mid a b) first.all first.checks in
    let both = checks_then xs ys (reads_fail reasons first.reads) (reads_fail reasons second.reads) value result old mid new a b c checks second.checks in
    record {
      reads = first.reads ++ second.reads;
      later = second.later;
      are_read = read_then told next files others first.reads second.reads second.later read second.are_read;
      checks = rw (items_then form reasons first.reads second.reads second.later, ← (fail_then reasons first.reads second.reads)) both;
      unread = on_ok_or result w (v || some_unread second.reads) (u || some_unread (first.reads ++ second.reads))
          (ap (λ (x : Bool). x || some_unread second.reads) first.unread ∙ (or_assoc u (some_unread first.reads) (some_unread second.reads) ∙ ap (λ (x : Bool). u || x) (unread_then first.reads second.reads))) second.unread;
      all = second.all;
    }

pub files_stop : (told : List Reading) (form : Format) (reasons : Subject → Reasons) (files others : List Named) (stop : RunFault) (old new : Printer) (a b c u v w : Bool)
    → ChecksFiles told form reasons files (Err stop) old new a b u v → ChecksFiles told form reasons (files ++ others) (Err stop) old new a c u w
files_stop told form reasons files others stop old new a b c u v w first = record {
  reads = first.reads;
  later = first.later ++ others;
  are_read = read_stops told files others first.reads first.later first.are_read;
  checks = record {
    carries = rw (items_stop form reasons first.reads first.later others) (carries_more {A = Unit {0}} (reads_items form reasons first.reads first.later) (map passed others) stop old new first.checks.carries);
    refused = tt;
  };
  unread = tt;
  all = tt;
}

-- ---- one file

one_items : (form : Format) (reasons : Subject → Reasons) (read : Read) → reads_items form reasons (read ∷ []) [] ≡ read_items form reasons read
unfolding reads_items
one_items form reasons read = append-nil (flat_map (read_items form reasons) (read ∷ [])) ∙ append-nil (read_items form reasons read)

one_fails : (reasons : Subject → Reasons) (read : Read) → read_fails reasons read ≡ reads_fail reasons (read ∷ [])
unfolding reads_fail
one_fails reasons read = or_false (read_fails reasons read)

one_unread : (read : Read) → is_unread read ≡ some_unread (read ∷ [])
unfolding some_unread
one_unread read = or_false (is_unread read)

on_ok_all : (result : Result (Unit {0}) RunFault) (later : List Named) → later ≡ [] → OnOk result (later ≡ [])
on_ok_all (Ok done) later is = is
on_ok_all (Err stop) later is = tt

pub file_checked : (form : Format) (reasons : Subject → Reasons) (role : Role) (name : List ℕ) (content : Result (List ℕ) Refusal) (result : Result (Unit {0}) RunFault) (old new : Printer) (a b u w : Bool)
    → ChecksFile form role reasons name content result old new a b → w ≡ (u || is_err content) → ChecksFiles (KeysRead name content ∷ []) form reasons (named role name ∷ []) result old new a b u w
file_checked form reasons role name content result old new a b u w checks unread =
    let read : Read = record { file = named role name; content = content } in
    record {
      reads = read ∷ [];
      later = [];
      are_read = record { files_are = refl; told_are = refl };
      checks = record {
        carries = rw (one_items form reasons read) checks.carries;
        refused = on_ok_or result b (a || read_fails reasons read) (a || reads_fail reasons (read ∷ [])) (ap (λ (x : Bool). a || x) (one_fails reasons read)) checks.refused;
      };
      unread = on_ok result w (u || some_unread (read ∷ [])) (unread ∙ ap (λ (x : Bool). u || x) (one_unread read));
      all = on_ok_all result [] refl;
    }

-- An allocation for the content of a file failed.
pub file_not_reached : (form : Format) (reasons : Subject → Reasons) (role : Role) (name : List ℕ) (now : Printer) (a b u w : Bool)
    → ChecksFiles [] form reasons (named role name ∷ []) (Err (run_fault_of name NoMemory)) now now a b u w
unfolding reads_items
file_not_reached form reasons role name now a b u w = record {
  reads = [];
  later = named role name ∷ [];
  are_read = record { files_are = refl; told_are = refl };
  checks = record { carries = carries_withheld {A = Unit {0}} (Passed name) (run_fault_of name NoMemory) now refl; refused = tt };
  unread = tt;
  all = tt;
}

-- ---- the names of files

pub named_none : (role : Role) → named_all role [] ≡ []
unfolding named_all
named_none role = refl

pub named_more : (role : Role) (names : List (Bor (List ℕ))) (i : ℕ) (name : Bor (List ℕ)) → i < length names → name ≡ get_or names i name → named_all role (take (i + 1) names) ≡ named_all role (take i names) ++ named role name.now ∷ []
unfolding named_all
named_more role names i name lt item =
    let more : take (i + 1) names ≡ take i names ++ name ∷ [] = take_more names i name lt ∙ ap (λ (y : Bor (List ℕ)). take i names ++ y ∷ []) (sym item) in
    rw more (map-append (λ (one : Bor (List ℕ)). named role one.now) (take i names) (name ∷ []))

pub named_split : (role : Role) (names : List (Bor (List ℕ))) (i : ℕ) → named_all role names ≡ named_all role (take i names) ++ named_all role (drop i names)
unfolding named_all
named_split role names i = ap (map (λ (one : Bor (List ℕ)). named role one.now)) (sym (take-append-drop i names)) ∙ map-append (λ (one : Bor (List ℕ)). named role one.now) (take i names) (drop i names)
