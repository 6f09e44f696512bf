-- The findings of whole files.
use Rattle.std.proofs.Common.{◌≡◌, ℕ, ◌+◌, Bool, false, List, [], ◌∷◌, ◌++◌, length, Option, None, Some, Result, Ok, Err, refl, sym, ap, subst, ◌∙◌, arith}
use Rattle.std.specs.Prelude.{OnOk}
use Rattle.std.specs.List.{slice_split}
use Rattle.std.proofs.lemmas.List.Splits.{length-slice_split}
use Rattle.key_text.specs.Armour.{begins_container}
use Rattle.key_text.specs.Lines.{is_newline}
use Rattle.run_faults.specs.RunFault.{RunFault, run_fault_of}
use Rattle.run_faults.specs.declared.cause.Cause.TheVariants as causes
use Rattle.run_output.specs.Carries.{Carries}
use Rattle.run_output.specs.Printer.{Printer}
use Rattle.run_output.proofs.RunParts.{carries_more, carries_then}
use Rattle.krl_types.specs.Subject.{Subject}
use Rattle.audit_text.specs.Answer.{Answer}
use Rattle.krl_audit.specs.Audit.{FileName, Told, ToldFile, file_items, file_kinds, file_lines, kinds_of, lines_items, or_whole, rest_items, text_lines, whole}
use Rattle.audit_lines.specs.Keyless.{keyless}
use Rattle.audit_lines.specs.Front.{fronts_of, is_read_by_lines}
use Rattle.audit_lines.specs.Outcome.{Outcomes, Placed, Unread, place, place_all, place_second, placed_beside, placed_from, plain_lines, private_lines, private_outcome, opened_at, outcomes_of, read_all}
use Rattle.krl_audit.specs.Scan.{scanned_lines}
use Rattle.krl_audit.specs.Tally.{all_tallied, none_yet}
use Rattle.krl_audit.specs.declared.counts.Counts.{Counts}
use Rattle.audit_lines.specs.declared.front.Fronts.{Fronts}
use Rattle.krl_audit.specs.declared.judge.Shown.{Shown}
use Rattle.krl_audit.specs.declared.tally.Tally.{Tally}
use Rattle.audit_lines.specs.declared.why.Refusal.{Refusal}
use Rattle.audit_lines.specs.declared.why.Why.TheVariants as whys
use Rattle.audit_lines.proofs.KeylessFiles.{split_lines}
use Rattle.krl_audit.proofs.Telling.{told_memory, told_stop, told_then}

-- ---- the end of a file

pub told_file : (answers : Subject → Answer) (shown : Shown) (name : FileName) (content : Result (List ℕ) Refusal) (tally : Tally) (result : Result (Unit {0}) RunFault) (old mid new : Printer) (before after : Counts)
    → Told answers shown name.shown none_yet (file_lines name.read_as content) (Ok tally) old mid before after → Carries (rest_items shown name.shown tally) result mid new
    → ToldFile answers shown name content result old new before after
unfolding file_items file_kinds
told_file answers shown name content tally result old mid new before after lines rest =
    let last : Carries (rest_items shown name.shown (all_tallied none_yet (kinds_of answers (file_lines name.read_as content)))) result mid new = subst (λ (u : Tally). Carries (rest_items shown name.shown u) result mid new) lines.tally_is rest in
    record {
      carries = carries_then (lines_items answers shown name.shown none_yet (file_lines name.read_as content)) (rest_items shown name.shown (all_tallied none_yet (kinds_of answers (file_lines name.read_as content)))) tally result old mid new lines.carries last;
      counts = when_ok result lines.counts;
    }
  where
    when_ok : {P : Type 0} (result : Result (Unit {0}) RunFault) → P → OnOk result P
    when_ok (Ok done) p = p
    when_ok (Err stop) p = tt

pub told_file_stop : (answers : Subject → Answer) (shown : Shown) (name : FileName) (content : Result (List ℕ) Refusal) (stop : RunFault) (old new : Printer) (before after other : Counts)
    → Told answers shown name.shown none_yet (file_lines name.read_as content) (Err stop) old new before after → ToldFile answers shown name content (Err stop) old new before other
unfolding file_items file_kinds
told_file_stop answers shown name content stop old new before after other lines = record {
  carries = carries_more {A = Tally} (lines_items answers shown name.shown none_yet (file_lines name.read_as content)) (rest_items shown name.shown (all_tallied none_yet (kinds_of answers (file_lines name.read_as content)))) stop old new lines.carries;
  counts = tt;
}

-- ---- a file that begins with no private key

by_whole : (answers : Subject → Answer) (shown : Shown) (name read_as text : List ℕ) (kind : Fronts) (lines : List Outcomes) (all : Option ℕ) (result : Result Tally RunFault) (old new : Printer) (before after : Counts)
    → kind ≡ fronts_of read_as → plain_lines kind text ≡ lines → keyless lines ≡ all → Told answers shown name none_yet (or_whole all lines) result old new before after
    → Told answers shown name none_yet (text_lines false read_as text) result old new before after
by_whole answers shown name read_as text kind lines all result old new before after kind_is are is told =
    let read : plain_lines (fronts_of read_as) text ≡ lines = ap (λ (k : Fronts). plain_lines k text) (sym kind_is) ∙ are in
    rw (read, is) told

pub told_lines : (answers : Subject → Answer) (shown : Shown) (name read_as text line : List ℕ) (kind : Fronts) (after : List (List ℕ)) (result : Result Tally RunFault) (old new : Printer) (before counts : Counts)
    → kind ≡ fronts_of read_as → slice_split is_newline text ≡ line ∷ after → None ≡ keyless (outcomes_of kind line ∷ read_all kind after)
    → Told answers shown name none_yet (placed_from 1 (outcomes_of kind line ∷ read_all kind after)) result old new before counts
    → Told answers shown name none_yet (text_lines false read_as text) result old new before counts
told_lines answers shown name read_as text line kind after result old new before counts kind_is split none told =
    by_whole answers shown name read_as text kind (outcomes_of kind line ∷ read_all kind after) None result old new before counts kind_is (split_lines kind text line after split) (sym none) told

pub told_whole : (answers : Subject → Answer) (shown : Shown) (name read_as text line : List ℕ) (kind : Fronts) (after : List (List ℕ)) (count : ℕ) (result : Result Tally RunFault) (old new : Printer) (before counts : Counts)
    → kind ≡ fronts_of read_as → slice_split is_newline text ≡ line ∷ after → Some count ≡ keyless (outcomes_of kind line ∷ read_all kind after)
    → Told answers shown name none_yet (whole (whys.NoKeys count)) result old new before counts
    → Told answers shown name none_yet (text_lines false read_as text) result old new before counts
told_whole answers shown name read_as text line kind after count result old new before counts kind_is split some told =
    by_whole answers shown name read_as text kind (outcomes_of kind line ∷ read_all kind after) (Some count) result old new before counts kind_is (split_lines kind text line after split) (sym some) told

-- ---- if an allocation failed

some_part : (parts : List (List ℕ)) (n : ℕ) → length parts ≡ n + 1 → (line : List ℕ) × (after : List (List ℕ)) × (parts ≡ line ∷ after)
some_part [] n e = absurd (omega arith)
some_part (line ∷ after) n e = (line, after, refl)

memory_by : (answers : Subject → Answer) (shown : Shown) (name : List ℕ) (all : Option ℕ) (line : Outcomes) (lines : List Outcomes) (stop : RunFault) (now : Printer) (before after : Counts) → stop ≡ run_fault_of name causes.NoMemory
    → Told answers shown name none_yet (or_whole all (line ∷ lines)) (Err stop) now now before after
memory_by answers shown name None line lines stop now before after is = told_memory answers shown name none_yet (place 1 line.first) (place_second 1 line.second ++ placed_from 2 lines) stop now before after is
memory_by answers shown name (Some count) line lines stop now before after is = told_memory answers shown name none_yet (place 0 (Unread (whys.NoKeys count))) [] stop now before after is

pub told_no_memory : (answers : Subject → Answer) (shown : Shown) (name read_as text : List ℕ) (stop : RunFault) (now : Printer) (before after : Counts) → stop ≡ run_fault_of name causes.NoMemory
    → Told answers shown name none_yet (text_lines false read_as text) (Err stop) now now before after
told_no_memory answers shown name read_as text stop now before after is =
    let some = some_part (slice_split is_newline text) _ (length-slice_split is_newline text) in
    let kind = fronts_of read_as in
    let lines : plain_lines kind text ≡ outcomes_of kind some.0 ∷ read_all kind some.1 = split_lines kind text some.0 some.1 some.2 in
    by_whole answers shown name read_as text kind (outcomes_of kind some.0 ∷ read_all kind some.1) (keyless (outcomes_of kind some.0 ∷ read_all kind some.1)) (Err stop) now now before after refl lines refl
    (memory_by answers shown name (keyless (outcomes_of kind some.0 ∷ read_all kind some.1)) (outcomes_of kind some.0) (read_all kind some.1) stop now before after is)

-- ---- a file by its bytes

pub told_refused : (answers : Subject → Answer) (shown : Shown) (name : List ℕ) (read_as : Option (List ℕ)) (refusal : Refusal) (result : Result Tally RunFault) (old new : Printer) (before after : Counts)
    → Told answers shown name none_yet (whole (whys.File refusal)) result old new before after → Told answers shown name none_yet (file_lines read_as (Err refusal)) result old new before after
unfolding file_lines
told_refused answers shown name read_as refusal result old new before after told = told

pub told_text : (answers : Subject → Answer) (shown : Shown) (name read_as text : List ℕ) (result : Result Tally RunFault) (old new : Printer) (before after : Counts)
    → Told answers shown name none_yet (text_lines (begins_container text) read_as text) result old new before after → Told answers shown name none_yet (file_lines (Some read_as) (Ok text)) result old new before after
unfolding file_lines
told_text answers shown name read_as text result old new before after told = told

pub told_scanned : (answers : Subject → Answer) (shown : Shown) (name text : List ℕ) (result : Result Tally RunFault) (old new : Printer) (before after : Counts)
    → Told answers shown name none_yet (scanned_lines text) result old new before after → Told answers shown name none_yet (file_lines None (Ok text)) result old new before after
unfolding file_lines
told_scanned answers shown name text result old new before after told = told

-- one more line, and those after it
pub told_next : (answers : Subject → Answer) (shown : Shown) (name : List ℕ) (kind : Fronts) (tally : Tally) (number : ℕ) (text line : List ℕ) (after : List (List ℕ)) (value : Tally) (result : Result Tally RunFault) (old mid new : Printer) (one two three : Counts)
    → slice_split is_newline text ≡ line ∷ after → Told answers shown name tally (place_all number (outcomes_of kind line)) (Ok value) old mid one two → Told answers shown name value (placed_from (number + 1) (read_all kind after)) result mid new two three
    → Told answers shown name tally (placed_from number (read_all kind (slice_split is_newline text))) result old new one three
told_next answers shown name kind tally number text line after value result old mid new one two three split first later =
    subst (λ (lines : List (List ℕ)). Told answers shown name tally (placed_from number (read_all kind lines)) result old new one three) (sym split)
    (told_then answers shown name tally (place_all number (outcomes_of kind line)) (placed_from (number + 1) (read_all kind after)) value result old mid new one two three first later)

pub told_cut : (answers : Subject → Answer) (shown : Shown) (name : List ℕ) (kind : Fronts) (tally : Tally) (number : ℕ) (text line : List ℕ) (after : List (List ℕ)) (stop : RunFault) (old new : Printer) (one two other : Counts)
    → slice_split is_newline text ≡ line ∷ after → Told answers shown name tally (place_all number (outcomes_of kind line)) (Err stop) old new one two
    → Told answers shown name tally (placed_from number (read_all kind (slice_split is_newline text))) (Err stop) old new one other
told_cut answers shown name kind tally number text line after stop old new one two other split first =
    subst (λ (lines : List (List ℕ)). Told answers shown name tally (placed_from number (read_all kind lines)) (Err stop) old new one other) (sym split)
    (told_stop answers shown name tally (place_all number (outcomes_of kind line)) (placed_from (number + 1) (read_all kind after)) stop old new one two other first)

-- ---- a private key, and what is beside it

pub told_beside : (answers : Subject → Answer) (shown : Shown) (name read_as text : List ℕ) (kind : Fronts) (by : Bool) (value : Tally) (result : Result Tally RunFault) (old mid new : Printer) (one two three : Counts)
    → kind ≡ fronts_of read_as → is_read_by_lines read_as ≡ by → Told answers shown name none_yet (place 1 (private_outcome (opened_at text)) ∷ []) (Ok value) old mid one two
    → Told answers shown name value (placed_beside kind by (slice_split is_newline text)) result mid new two three → Told answers shown name none_yet (private_lines read_as text) result old new one three
unfolding private_lines
told_beside answers shown name read_as text kind by value result old mid new one two three kind_is by_is first later =
    rw (sym kind_is, by_is)
    (told_then answers shown name none_yet (place 1 (private_outcome (opened_at text)) ∷ []) (placed_beside kind by (slice_split is_newline text)) value result old mid new one two three first later)

pub told_private_stop : (answers : Subject → Answer) (shown : Shown) (name read_as text : List ℕ) (stop : RunFault) (old new : Printer) (one two other : Counts)
    → Told answers shown name none_yet (place 1 (private_outcome (opened_at text)) ∷ []) (Err stop) old new one two → Told answers shown name none_yet (private_lines read_as text) (Err stop) old new one other
unfolding private_lines
told_private_stop answers shown name read_as text stop old new one two other first =
    told_stop answers shown name none_yet (place 1 (private_outcome (opened_at text)) ∷ []) (placed_beside (fronts_of read_as) (is_read_by_lines read_as) (slice_split is_newline text)) stop old new one two other first

pub told_as : (answers : Subject → Answer) (shown : Shown) (name : List ℕ) (tally : Tally) (lines others : List Placed) (result : Result Tally RunFault) (old new : Printer) (before after : Counts)
    → lines ≡ others → Told answers shown name tally others result old new before after → Told answers shown name tally lines result old new before after
told_as answers shown name tally lines others result old new before after same told =
    subst (λ (some : List Placed). Told answers shown name tally some result old new before after) (sym same) told
