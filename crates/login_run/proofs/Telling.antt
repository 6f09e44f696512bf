-- Findings, told one after another.
use Rattle.std.proofs.Common.{◌≡◌, ℕ, Bool, true, false, List, [], ◌∷◌, ◌++◌, Result, Ok, Err, refl, sym, ap, subst, ◌∙◌}
use Rattle.std.specs.Prelude.{OnOk}
use Rattle.std.proofs.lemmas.List.{map-append}
use Rattle.krl_types.specs.Subject.{Subject}
use Rattle.audit_text.specs.Answer.{Answer}
use Rattle.run_faults.specs.RunFault.{RunFault, run_fault_of}
use Rattle.run_faults.specs.declared.cause.Cause.TheVariants as causes
use Rattle.run_output.specs.Carries.{Carries}
use Rattle.run_output.specs.Printer.{Printer}
use Rattle.run_output.specs.Run.{Item, name_of, said_of}
use Rattle.run_output.proofs.RunParts.{carries_as, carries_more, carries_none, carries_then, carries_withheld}
use Rattle.audit_text.specs.declared.line_kind.LineKind.{LineKind}
use Rattle.krl_audit.specs.Audit.{JudgesAs, said_if, says}
use Rattle.krl_audit.specs.Counts.{all_counted, counted}
use Rattle.krl_audit.specs.declared.auditor.Auditor.{Auditor}
use Rattle.krl_audit.specs.declared.counts.Counts.{Counts}
use Rattle.krl_audit.specs.declared.judge.Judge.{Judge}
use Rattle.krl_audit.specs.declared.judge.Shown.{Shown}
use Rattle.login_run.specs.Finding.{IsMade, Placed, Tells, Told, finding_item, finding_text, items_of, kind_of, kinds_of}

-- ---- one finding

item_by : (answers : Subject → Answer) (shown : Shown) (placed : Placed) (kind : LineKind) (said : Bool) (text : List ℕ) → IsMade answers shown placed kind said text
    → finding_item answers shown placed ≡ said_if said placed.name (finding_text shown.format answers placed.name placed.number placed.finding)
item_by answers shown placed kind said text made =
    let line = finding_text shown.format answers placed.name placed.number placed.finding in
    ap (λ (k : LineKind). said_if (says shown k) placed.name line) (sym made.kind_is) ∙ ap (λ (b : Bool). said_if b placed.name line) (sym made.said_is)

-- the item of a finding whose text was made
item_is : (answers : Subject → Answer) (shown : Shown) (placed : Placed) (kind : LineKind) (said : Bool) (text : List ℕ) → IsMade answers shown placed kind said text → finding_item answers shown placed ≡ said_if said placed.name text
item_is answers shown placed kind true text made = item_by answers shown placed kind true text made ∙ ap (said_of placed.name) (sym (made.text_is refl))
item_is answers shown placed kind false text made = item_by answers shown placed kind false text made

named : (said : Bool) (name text : List ℕ) → name_of (said_if said name text) ≡ name
named true name text = refl
named false name text = refl

item_named : (answers : Subject → Answer) (shown : Shown) (placed : Placed) → name_of (finding_item answers shown placed) ≡ placed.name
item_named answers shown placed = named (says shown (kind_of answers placed.finding)) placed.name (finding_text shown.format answers placed.name placed.number placed.finding)

told_made : (answers : Subject → Answer) (shown : Shown) (name : List ℕ) (placed : Placed) (kind : LineKind) (said : Bool) (text : List ℕ) (value : Unit {0}) (old new : Printer) (before after : Counts)
    → placed.name ≡ name → IsMade answers shown placed kind said text → Carries (said_if said name text ∷ []) (Ok value) old new → after ≡ counted before kind
    → Told answers shown (placed ∷ []) {A = Unit {0}} (Ok value) old new before after
told_made answers shown name placed kind said text value old new before after is made carries counts = record {
  carries = subst (λ (i : Item). Carries (i ∷ []) (Ok value) old new) (sym (item_is answers shown placed kind said text made ∙ ap (λ (n : List ℕ). said_if said n text) is)) carries;
  counts = counts ∙ ap (counted before) made.kind_is;
}

told_lost : {A : Type 0} (answers : Subject → Answer) (shown : Shown) (name : List ℕ) (placed : Placed) (kind : LineKind) (said : Bool) (text : List ℕ) (stop : RunFault) (old new : Printer) (before after : Counts)
    → placed.name ≡ name → IsMade answers shown placed kind said text → Carries {A = Unit {0}} (said_if said name text ∷ []) (Err stop) old new
    → Told answers shown (placed ∷ []) {A = A} (Err stop) old new before after
told_lost {A} answers shown name placed kind said text stop old new before after is made carries = record {
  carries = carries_as {A = Unit {0}} {B = A} (finding_item answers shown placed ∷ []) (Err stop) (Err stop) old new refl
      (subst (λ (i : Item). Carries {A = Unit {0}} (i ∷ []) (Err stop) old new) (sym (item_is answers shown placed kind said text made ∙ ap (λ (n : List ℕ). said_if said n text) is)) carries);
  counts = tt;
}

-- An allocation failed at the first finding.
told_memory : {A : Type 0} (answers : Subject → Answer) (shown : Shown) (name : List ℕ) (placed : Placed) (later : List Placed) (stop : RunFault) (now : Printer) (before after : Counts)
    → placed.name ≡ name → stop ≡ run_fault_of name causes.NoMemory → Told answers shown (placed ∷ later) {A = A} (Err stop) now now before after
told_memory {A} answers shown name placed later stop now before after is lacks =
    let item = finding_item answers shown placed in
    let fault : stop ≡ run_fault_of (name_of item) causes.NoMemory =
    lacks ∙ ap (λ (n : List ℕ). run_fault_of n causes.NoMemory) (sym is ∙ sym (item_named answers shown placed)) in
    record {
      carries = carries_more {A = A} {B = A} (item ∷ []) (items_of answers shown later) stop now now
          (subst (λ (s : RunFault). Carries {A = A} (item ∷ []) (Err s) now now) (sym fault) (carries_withheld item (run_fault_of (name_of item) causes.NoMemory) now refl));
      counts = tt;
    }

-- ---- some findings after others

counted_append : (answers : Subject → Answer) (before : Counts) (xs ys : List Placed) → all_counted before (kinds_of answers (xs ++ ys)) ≡ all_counted (all_counted before (kinds_of answers xs)) (kinds_of answers ys)
counted_append answers before [] ys = refl
counted_append answers before (x ∷ xs) ys = counted_append answers (counted before (kind_of answers x.finding)) xs ys

on_ok : {A : Type 0} (result : Result A RunFault) (after one other : Counts) → one ≡ other → OnOk result (after ≡ one) → OnOk result (after ≡ other)
on_ok (Ok done) after one other same is = is ∙ same
on_ok (Err stop) after one other same is = tt

told_then : {A B : Type 0} (answers : Subject → Answer) (shown : Shown) (xs ys : List Placed) (value : A) (result : Result B RunFault) (old mid new : Printer) (before between after : Counts)
    → Told answers shown xs (Ok value) old mid before between → Told answers shown ys result mid new between after → Told answers shown (xs ++ ys) result old new before after
told_then answers shown xs ys value result old mid new before between after first later = record {
  carries = subst (λ (items : List Item). Carries items result old new) (sym (map-append (finding_item answers shown) xs ys))
      (carries_then (items_of answers shown xs) (items_of answers shown ys) value result old mid new first.carries later.carries);
  counts = on_ok result after (all_counted between (kinds_of answers ys)) (all_counted before (kinds_of answers (xs ++ ys)))
      (ap (λ (c : Counts). all_counted c (kinds_of answers ys)) first.counts ∙ sym (counted_append answers before xs ys)) later.counts;
}

-- ---- by the answers of the list

pub tells_none : {W A : Type 0} (value : A) (now : Auditor W) → Tells now [] (Ok value) now
tells_none value now = record { told = λ answers judges. record { carries = carries_none value now.run.printer; counts = refl }; judge = refl }

pub tells_then : {W A B : Type 0} (xs ys : List Placed) (value : A) (result : Result B RunFault) (old mid new : Auditor W) → Tells old xs (Ok value) mid → Tells mid ys result new → Tells old (xs ++ ys) result new
tells_then {W} xs ys value result old mid new first later = record {
  told = λ answers judges.
      told_then answers old.judge.shown xs ys value result old.run.printer mid.run.printer new.run.printer old.counts mid.counts new.counts (first.told answers judges)
      (subst (λ (j : Judge). JudgesAs j answers → Told answers j.shown ys result mid.run.printer new.run.printer mid.counts new.counts) first.judge (later.told answers) judges);
  judge = later.judge ∙ first.judge;
}

-- the same findings with another value
pub tells_as : {W A B : Type 0} (xs : List Placed) (value : A) (other : B) (old new : Auditor W) → Tells old xs (Ok value) new → Tells old xs (Ok other) new
tells_as xs value other old new is = record {
  told = λ answers judges. record {
    carries = carries_as (items_of answers old.judge.shown xs) (Ok value) (Ok other) old.run.printer new.run.printer refl (is.told answers judges).carries;
    counts = (is.told answers judges).counts;
  };
  judge = is.judge;
}

pub tells_err : {W A B : Type 0} (xs : List Placed) (stop : RunFault) (old new : Auditor W) → Tells old xs {A = A} (Err stop) new → Tells old xs {A = B} (Err stop) new
tells_err {W} {A} {B} xs stop old new is = record {
  told = λ answers judges. record {
    carries = carries_as {A = A} {B = B} (items_of answers old.judge.shown xs) (Err stop) (Err stop) old.run.printer new.run.printer refl (is.told answers judges).carries;
    counts = tt;
  };
  judge = is.judge;
}

-- A finding was printed if it is to be printed, and counted.
pub tells_made : {W : Type 0} (name : List ℕ) (placed : Placed) (kind : LineKind) (said : Bool) (text : List ℕ) (value : Unit {0}) (old new : Auditor W)
    → placed.name ≡ name → ((answers : Subject → Answer) → JudgesAs old.judge answers → IsMade answers old.judge.shown placed kind said text)
    → Carries (said_if said name text ∷ []) (Ok value) old.run.printer new.run.printer → new.counts ≡ counted old.counts kind → new.judge ≡ old.judge
    → Tells old (placed ∷ []) {A = Unit {0}} (Ok value) new
tells_made name placed kind said text value old new is made carries counts judge = record {
  told = λ answers judges. told_made answers old.judge.shown name placed kind said text value old.run.printer new.run.printer old.counts new.counts is (made answers judges) carries counts;
  judge = judge;
}

-- A finding was made, and the run was stopped at it.
pub tells_lost : {W A : Type 0} (name : List ℕ) (placed : Placed) (kind : LineKind) (said : Bool) (text : List ℕ) (stop : RunFault) (old new : Auditor W)
    → placed.name ≡ name → ((answers : Subject → Answer) → JudgesAs old.judge answers → IsMade answers old.judge.shown placed kind said text)
    → Carries {A = Unit {0}} (said_if said name text ∷ []) (Err stop) old.run.printer new.run.printer → new.judge ≡ old.judge
    → Tells old (placed ∷ []) {A = A} (Err stop) new
tells_lost {W} {A} name placed kind said text stop old new is made carries judge = record {
  told = λ answers judges. told_lost {A = A} answers old.judge.shown name placed kind said text stop old.run.printer new.run.printer old.counts new.counts is (made answers judges) carries;
  judge = judge;
}

-- An allocation failed at the first finding.
pub tells_memory : {W A : Type 0} (name : List ℕ) (placed : Placed) (later : List Placed) (stop : RunFault) (now : Auditor W)
    → placed.name ≡ name → stop ≡ run_fault_of name causes.NoMemory → Tells now (placed ∷ later) {A = A} (Err stop) now
tells_memory name placed later stop now is lacks = record {
  told = λ answers judges. told_memory answers now.judge.shown name placed later stop now.run.printer now.counts now.counts is lacks;
  judge = refl;
}
