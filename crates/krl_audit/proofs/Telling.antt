-- The findings of lines, one after the other, and the counts.
use Rattle.std.proofs.Common.{◌≡◌, ℕ, Bool, true, false, List, [], ◌∷◌, ◌++◌, Result, Ok, Err, refl, sym, ap, subst, ◌∙◌}
use Rattle.std.specs.Prelude.{IfOk, OnOk}
use Rattle.krl_types.specs.Subject.{Subject}
use Rattle.audit_text.specs.Answer.{Answer}
use Rattle.run_faults.specs.RunFault.{RunFault, run_fault_of}
use Rattle.run_faults.specs.declared.cause.Cause.TheVariants as causes
use Rattle.run_output.specs.Carries.{Carries}
use Rattle.run_output.specs.Printer.{Printer}
use Rattle.run_output.specs.Run.{Item, name_of, said_of}
use Rattle.run_output.proofs.RunParts.{carries_as, carries_more, carries_none, carries_then, carries_withheld}
use Rattle.krl_audit.specs.Audit.{IsMade, SaysLine, Told, found_at, kind_of, kinds_of, line_item, lines_items, outcome_line, said_if, says}
use Rattle.krl_audit.specs.Counts.{all_counted, counted}
use Rattle.audit_lines.specs.Outcome.{Placed}
use Rattle.krl_audit.specs.Tally.{all_tallied, tallied, within}
use Rattle.krl_audit.specs.declared.counts.Counts.{Counts}
use Rattle.audit_text.specs.declared.line_kind.LineKind.{LineKind}
use Rattle.krl_audit.specs.declared.judge.Shown.{Shown}
use Rattle.krl_audit.specs.declared.tally.Tally.{Tally}

-- ---- the item of a line

item_by : (answers : Subject → Answer) (shown : Shown) (name : List ℕ) (line : Placed) (kind : LineKind) (said : Bool) (text : List ℕ) → IsMade answers shown (found_at shown name line) line.outcome kind said text
    → line_item answers shown name line ≡ said_if said name (outcome_line shown.format answers (found_at shown name line) line.outcome)
item_by answers shown name line kind said text made =
    ap (λ (k : LineKind). said_if (says shown k) name (outcome_line shown.format answers (found_at shown name line) line.outcome)) (sym made.kind_is)
    ∙ ap (λ (b : Bool). said_if b name (outcome_line shown.format answers (found_at shown name line) line.outcome)) (sym made.said_is)

-- the item of a line that was made
item_is : (answers : Subject → Answer) (shown : Shown) (name : List ℕ) (line : Placed) (kind : LineKind) (said : Bool) (text : List ℕ) → IsMade answers shown (found_at shown name line) line.outcome kind said text
    → line_item answers shown name line ≡ said_if said name text
item_is answers shown name line kind true text made = item_by answers shown name line kind true text made ∙ ap (said_of name) (sym (made.text_is refl))
item_is answers shown name line kind false text made = item_by answers shown name line kind false text made

named : (said : Bool) (name text : List ℕ) → name_of (said_if said name text) ≡ name
named true name text = refl
named false name text = refl

line_named : (answers : Subject → Answer) (shown : Shown) (name : List ℕ) (line : Placed) → name_of (line_item answers shown name line) ≡ name
line_named answers shown name line = named (says shown (kind_of answers line.outcome)) name (outcome_line shown.format answers (found_at shown name line) line.outcome)

-- ---- one line that was judged

pub says_made : (answers : Subject → Answer) (shown : Shown) (name : List ℕ) (line : Placed) (kind : LineKind) (said : Bool) (text : List ℕ) (value : Unit {0}) (old new : Printer)
    → IsMade answers shown (found_at shown name line) line.outcome kind said text → Carries (said_if said name text ∷ []) (Ok value) old new → SaysLine answers shown name line (Ok kind) old new
says_made answers shown name line kind said text value old new made carries = record {
  carries = carries_as (line_item answers shown name line ∷ []) (Ok value) (Ok kind) old new refl
      (subst (λ (i : Item). Carries (i ∷ []) (Ok value) old new) (sym (item_is answers shown name line kind said text made)) carries);
  kind_is = made.kind_is;
}

withheld : {A : Type 0} (item : Item) (name : List ℕ) (stop : RunFault) (now : Printer) → name_of item ≡ name → stop ≡ run_fault_of name causes.NoMemory → Carries {A = A} (item ∷ []) (Err stop) now now
withheld {A} item name stop now is_named is =
    subst (λ (s : RunFault). Carries {A = A} (item ∷ []) (Err s) now now) (sym is)
    (carries_withheld item (run_fault_of name causes.NoMemory) now (ap (λ (n : List ℕ). run_fault_of n causes.NoMemory) (sym is_named)))

-- ---- one line, and the counts

pub told_said : (answers : Subject → Answer) (shown : Shown) (name : List ℕ) (tally : Tally) (line : Placed) (kind : LineKind) (value : Tally) (old new : Printer) (before after : Counts)
    → SaysLine answers (within tally shown) name line (Ok kind) old new → after ≡ counted before kind → value ≡ tallied tally kind
    → Told answers shown name tally (line ∷ []) (Ok value) old new before after
told_said answers shown name tally line kind value old new before after says counts more = record {
  carries = carries_as (line_item answers (within tally shown) name line ∷ []) (Ok kind) (Ok value) old new refl says.carries;
  counts = counts ∙ ap (counted before) says.kind_is;
  tally_is = more ∙ ap (tallied tally) says.kind_is;
}

pub told_stopped : (answers : Subject → Answer) (shown : Shown) (name : List ℕ) (tally : Tally) (line : Placed) (stop : RunFault) (old new : Printer) (before after : Counts)
    → SaysLine answers (within tally shown) name line (Err stop) old new → Told answers shown name tally (line ∷ []) (Err stop) old new before after
told_stopped answers shown name tally line stop old new before after says = record {
  carries = carries_as {A = LineKind} {B = Tally} (line_item answers (within tally shown) name line ∷ []) (Err stop) (Err stop) old new refl says.carries;
  counts = tt;
  tally_is = tt;
}

pub told_memory : (answers : Subject → Answer) (shown : Shown) (name : List ℕ) (tally : Tally) (line : Placed) (lines : List Placed) (stop : RunFault) (now : Printer) (before after : Counts)
    → stop ≡ run_fault_of name causes.NoMemory → Told answers shown name tally (line ∷ lines) (Err stop) now now before after
told_memory answers shown name tally line lines stop now before after is = record {
  carries = carries_more {A = Tally} (line_item answers (within tally shown) name line ∷ []) (lines_items answers shown name (tallied tally (kind_of answers line.outcome)) lines) stop now now
      (withheld (line_item answers (within tally shown) name line) name stop now (line_named answers (within tally shown) name line) is);
  counts = tt;
  tally_is = tt;
}

-- ---- some lines after others

items_append : (answers : Subject → Answer) (shown : Shown) (name : List ℕ) (tally : Tally) (xs ys : List Placed)
    → lines_items answers shown name tally (xs ++ ys) ≡ lines_items answers shown name tally xs ++ lines_items answers shown name (all_tallied tally (kinds_of answers xs)) ys
items_append answers shown name tally [] ys = refl
items_append answers shown name tally (x ∷ xs) ys =
    ap (λ (items : List Item). line_item answers (within tally shown) name x ∷ items) (items_append answers shown name (tallied tally (kind_of answers x.outcome)) xs ys)

tally_append : (answers : Subject → Answer) (tally : Tally) (xs ys : List Placed) → all_tallied tally (kinds_of answers (xs ++ ys)) ≡ all_tallied (all_tallied tally (kinds_of answers xs)) (kinds_of answers ys)
tally_append answers tally [] ys = refl
tally_append answers tally (x ∷ xs) ys = tally_append answers (tallied tally (kind_of answers x.outcome)) xs ys

counted_append : (answers : Subject → Answer) (before : Counts) (xs ys : List Placed) → all_counted before (kinds_of answers (xs ++ ys)) ≡ all_counted (all_counted before (kinds_of answers xs)) (kinds_of answers ys)
counted_append answers before [] ys = refl
counted_append answers before (x ∷ xs) ys = counted_append answers (counted before (kind_of answers x.outcome)) xs ys

on_ok : {A : Type 0} (result : Result A RunFault) (after one other : Counts) → one ≡ other → OnOk result (after ≡ one) → OnOk result (after ≡ other)
on_ok (Ok done) after one other same is = is ∙ same
on_ok (Err stop) after one other same is = tt

if_ok : (result : Result Tally RunFault) (one other : Tally) → one ≡ other → IfOk result (λ now. now ≡ one) → IfOk result (λ now. now ≡ other)
if_ok (Ok now) one other same is = is ∙ same
if_ok (Err stop) one other same is = tt

pub told_none : (answers : Subject → Answer) (shown : Shown) (name : List ℕ) (tally : Tally) (now : Printer) (counts : Counts) → Told answers shown name tally [] (Ok tally) now now counts counts
told_none answers shown name tally now counts = record { carries = carries_none tally now; counts = refl; tally_is = refl }

pub told_then : (answers : Subject → Answer) (shown : Shown) (name : List ℕ) (tally : Tally) (xs ys : List Placed) (value : Tally) (result : Result Tally RunFault) (old mid new : Printer) (before between after : Counts)
    → Told answers shown name tally xs (Ok value) old mid before between → Told answers shown name value ys result mid new between after
    → Told answers shown name tally (xs ++ ys) result old new before after
told_then answers shown name tally xs ys value result old mid new before between after first later =
    let mid_tally : Tally = all_tallied tally (kinds_of answers xs) in
    let rest : Told answers shown name mid_tally ys result mid new between after = subst (λ (t : Tally). Told answers shown name t ys result mid new between after) first.tally_is later in
    record {
      carries = subst (λ (items : List Item). Carries items result old new) (sym (items_append answers shown name tally xs ys))
          (carries_then (lines_items answers shown name tally xs) (lines_items answers shown name mid_tally ys) value result old mid new first.carries rest.carries);
      counts = on_ok result after (all_counted between (kinds_of answers ys)) (all_counted before (kinds_of answers (xs ++ ys)))
          (ap (λ (c : Counts). all_counted c (kinds_of answers ys)) first.counts ∙ sym (counted_append answers before xs ys)) rest.counts;
      tally_is = if_ok result (all_tallied mid_tally (kinds_of answers ys)) (all_tallied tally (kinds_of answers (xs ++ ys))) (sym (tally_append answers tally xs ys)) rest.tally_is;
    }

pub told_stop : (answers : Subject → Answer) (shown : Shown) (name : List ℕ) (tally : Tally) (xs ys : List Placed) (stop : RunFault) (old new : Printer) (before after other : Counts)
    → Told answers shown name tally xs (Err stop) old new before after → Told answers shown name tally (xs ++ ys) (Err stop) old new before other
told_stop answers shown name tally xs ys stop old new before after other first = record {
  carries = subst (λ (items : List Item). Carries {A = Tally} items (Err stop) old new) (sym (items_append answers shown name tally xs ys))
      (carries_more {A = Tally} (lines_items answers shown name tally xs) (lines_items answers shown name (all_tallied tally (kinds_of answers xs)) ys) stop old new first.carries);
  counts = tt;
  tally_is = tt;
}

-- ---- the numbers of the other lines

pub first_stops : (one : Item) (more : List Item) (stop : RunFault) (old new : Printer) → Carries {A = Unit {0}} (one ∷ []) (Err stop) old new → Carries {A = Unit {0}} (one ∷ more) (Err stop) old new
first_stops one more stop old new first = carries_more {A = Unit {0}} {B = Unit {0}} (one ∷ []) more stop old new first

pub first_then : (one : Item) (more : List Item) (value : Unit {0}) (result : Result (Unit {0}) RunFault) (old mid new : Printer) → Carries (one ∷ []) (Ok value) old mid → Carries more result mid new → Carries (one ∷ more) result old new
first_then one more value result old mid new first later = carries_then (one ∷ []) more value result old mid new first later
