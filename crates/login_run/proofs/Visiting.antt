-- Logs, visited one after another.
use Rattle.std.proofs.Common.{◌≡◌, ◌<◌, ◌+◌, ℕ, Bool, true, false, List, [], ◌∷◌, ◌++◌, Option, Some, None, Result, Ok, Err, IfOk, length, refl, sym, ap, subst, ◌∙◌, append-nil, arith, add-one, drop, drop-cons, get_or}
use Rattle.std.specs.Borrow.{Bor}
use Rattle.run_faults.specs.RunFault.{RunFault}
use Rattle.audit_lines.specs.declared.why.Refusal.{Refusal}
use Rattle.audit_run.specs.Fact.{Fact}
use Rattle.std.specs.Prelude.{if◌then◌else◌}
use Rattle.audit_run.specs.Named.{input_after, is_input}
use Rattle.audit_run.specs.Reading.{InputFails}
use Rattle.krl_audit.specs.declared.auditor.Auditor.{Auditor}
use Rattle.login_run.specs.Finding.{Placed, Tells, number_after}
use Rattle.login_run.specs.Log.{AuditsLog, IsBroken, IsEnd, LogEnd, log_findings}
use Rattle.login_run.specs.Log as logs
use Rattle.login_run.specs.Visits.{AreVisits, IsInput, IsVisitIf, MayBeLeft, TellsLog, Visits, VisitsAll, VisitsFile, all_of, came, closed, failed, opened, refused, unopened}
use Rattle.login_run.proofs.Lines.{some_outcomes}
use Rattle.login_run.proofs.Telling.{tells_as, tells_err, tells_none, tells_then}

-- ---- one log

-- A log was read to its end.
pub log_read : {W : Type 0} (Fails : Refusal → Type 0) (name : List ℕ) (first now : Option (List ℕ)) (broken : Bool) (value : Unit {0}) (old new : Auditor W)
    → AuditsLog name first now broken (Ok true) old new → TellsLog Fails name first (Ok value) old new
log_read Fails name first now broken value old new log =
    let outcomes = some_outcomes log.reads.lines in
    let findings = log_findings name outcomes.0 (number_after 0 log.reads.lines) log.reads.end in
    record {
      findings = findings;
      is = came now broken (Ok true) (λ e. cc) log.reads outcomes.0 outcomes.1 refl;
      tells = tells_as findings true value old new (log.tells outcomes.0 outcomes.1);
    }

-- The run was stopped in a log.
pub log_broken : {W : Type 0} (Fails : Refusal → Type 0) (name : List ℕ) (first now : Option (List ℕ)) (broken : Bool) (stop : RunFault) (old new : Auditor W)
    → AuditsLog name first now broken (Err stop) old new → TellsLog Fails name first {A = Unit {0}} (Err stop) old new
log_broken {W} Fails name first now broken stop old new log =
    let outcomes = some_outcomes log.reads.lines in
    let findings = log_findings name outcomes.0 (number_after 0 log.reads.lines) log.reads.end in
    record {
      findings = findings;
      is = came now broken (Err stop) (λ e. cc) log.reads outcomes.0 outcomes.1 refl;
      tells = tells_err {W = W} {A = Bool} {B = Unit {0}} findings stop old new (log.tells outcomes.0 outcomes.1);
    }

-- A reader failed, and that was told.
pub log_failed : {W : Type 0} (Fails : Refusal → Type 0) (name : List ℕ) (first now : Option (List ℕ)) (broken : Bool) (refusal : Refusal) (result : Result (Unit {0}) RunFault) (old mid new : Auditor W)
    → AuditsLog name first now broken (Ok false) old mid → Fails refusal → Tells mid (refused name refusal) result new → TellsLog Fails name first result old new
log_failed Fails name first now broken refusal result old mid new log fails told =
    let outcomes = some_outcomes log.reads.lines in
    let front = log_findings name outcomes.0 (number_after 0 log.reads.lines) log.reads.end in
    record {
      findings = front ++ refused name refusal;
      is = failed now broken log.reads outcomes.0 outcomes.1 refusal fails refl;
      tells = tells_then front (refused name refusal) false result old mid new (log.tells outcomes.0 outcomes.1) told;
    }

by_end : (end : LogEnd) (now : Option (List ℕ)) (broken : Bool) (came : List ℕ) (number : ℕ) (left : List (List ℕ)) → IsEnd end now broken came number left (Ok false) → broken ≡ true
by_end logs.Whole now broken bytes number left is = let bad = is.1.1.1 in absurd cc
by_end logs.Failed now broken bytes number left is = is.1.0
by_end logs.Long now broken bytes number left is = absurd is.1
by_end (logs.Packed packed) now broken bytes number left is = absurd is.1
by_end logs.Endless now broken bytes number left is = absurd is.1
by_end logs.Broken now broken bytes number left is = absurd is

-- where a reader failed, it says so
pub reader_fails : {W : Type 0} (name : List ℕ) (first now : Option (List ℕ)) (broken : Bool) (old mid : Auditor W) → AuditsLog name first now broken (Ok false) old mid → broken ≡ true
reader_fails name first now broken old mid log = by_end log.reads.end now broken log.reads.came (number_after 0 log.reads.lines) log.reads.left log.reads.is_end

-- ---- the log of a name

-- a file
pub visits_file : {W A : Type 0} (Knows : Fact → Type 0) (InputFailed : Type 0) (name : List ℕ) (input : Option (Option (List ℕ))) (result : Result A RunFault) (old new : Auditor W)
    → is_input name ≡ false → VisitsFile Knows name result old new → Visits Knows InputFailed name input input result old new
visits_file Knows InputFailed name input result old new other visit = record {
  findings = visit.findings;
  is = subst (λ (b : Bool). IsVisitIf b (IsBroken result) Knows InputFailed name input visit.findings) (sym other) visit.is;
  next_is = subst (λ (b : Bool). input ≡ (if b then None else input)) (sym other) refl;
  tells = visit.tells;
}

after_input : (name : List ℕ) (input next : Option (Option (List ℕ))) → is_input name ≡ true → next ≡ None → next ≡ input_after name input
after_input name input next same none = subst (λ (b : Bool). next ≡ (if b then None else input)) (sym same) none

-- standard input
pub visits_input : {W A : Type 0} (Knows : Fact → Type 0) (InputFailed : Type 0) (name : List ℕ) (first : Option (List ℕ)) (input next : Option (Option (List ℕ))) (result : Result A RunFault) (old new : Auditor W)
    → is_input name ≡ true → input ≡ Some first → next ≡ None → TellsLog (InputFails InputFailed) name first result old new → Visits Knows InputFailed name input next result old new
visits_input Knows InputFailed name first input next result old new same some none log = record {
  findings = log.findings;
  is = subst (λ (b : Bool). IsVisitIf b (IsBroken result) Knows InputFailed name input log.findings) (sym same)
      (subst (λ (i : Option (Option (List ℕ))). IsInput InputFailed name i log.findings) (sym some) log.is);
  next_is = after_input name input next same none;
  tells = log.tells;
}

-- standard input, which was read before
pub visits_again : {W : Type 0} (Knows : Fact → Type 0) (InputFailed : Type 0) (name : List ℕ) (input next : Option (Option (List ℕ))) (value : Unit {0}) (now : Auditor W)
    → is_input name ≡ true → input ≡ None → next ≡ None → Visits Knows InputFailed name input next (Ok value) now now
visits_again Knows InputFailed name input next value now same gone none = record {
  findings = [];
  is = subst (λ (b : Bool). IsVisitIf b ⊥ Knows InputFailed name input []) (sym same) (subst (λ (i : Option (Option (List ℕ))). IsInput InputFailed name i []) (sym gone) refl);
  next_is = after_input name input next same none;
  tells = tells_none value now;
}

-- ---- all logs

lifted : (b : Bool) (Broken : Type 0) (Knows : Fact → Type 0) (InputFailed : Type 0) (name : List ℕ) (input : Option (Option (List ℕ))) (findings : List Placed)
    → IsVisitIf b ⊥ Knows InputFailed name input findings → IsVisitIf b Broken Knows InputFailed name input findings
lifted true Broken Knows InputFailed name input findings is = is
lifted false Broken Knows InputFailed name input findings (unopened none is) = absurd none
lifted false Broken Knows InputFailed name input findings (closed refusal knows is) = closed refusal knows is
lifted false Broken Knows InputFailed name input findings (opened is_file identity first knows is) = opened is_file identity first knows is

pub all_none : {W : Type 0} (Knows : Fact → Type 0) (InputFailed : Type 0) (quiet : Bool) (before : ℕ) (names : List (Bor (List ℕ))) (input : Option (Option (List ℕ))) (now : Auditor W)
    → names ≡ [] → VisitsAll Knows InputFailed quiet before names input (Ok before) now now
all_none Knows InputFailed quiet before names input now none = record {
  visited = [];
  left = [];
  names_are = none;
  found = [];
  are = tt;
  tells = tells_none before now;
  rest = left_none quiet;
  counted = omega arith;
}
  where
    left_none : (quiet : Bool) → MayBeLeft quiet now.counts.revoked {A = ℕ} (Ok before) []
    left_none quiet = tt

counted_one : (before : ℕ) (name : Bor (List ℕ)) (visited : List (Bor (List ℕ))) (result : Result ℕ RunFault) → IfOk result (λ count. count ≡ before + 1 + length visited) → IfOk result (λ count. count ≡ before + length (name ∷ visited))
counted_one before name visited (Ok count) is = omega (arith, is)
counted_one before name visited (Err stop) is = tt

pub all_first : {W : Type 0} (Knows : Fact → Type 0) (InputFailed : Type 0) (quiet : Bool) (before : ℕ) (name : Bor (List ℕ)) (names : List (Bor (List ℕ))) (input next : Option (Option (List ℕ))) (value : Unit {0}) (result : Result ℕ RunFault) (old mid new : Auditor W)
    → Visits Knows InputFailed name.now input next {A = Unit {0}} (Ok value) old mid → VisitsAll Knows InputFailed quiet (before + 1) names next result mid new
    → VisitsAll Knows InputFailed quiet before (name ∷ names) input result old new
all_first Knows InputFailed quiet before name names input next value result old mid new one rest = record {
  visited = name ∷ rest.visited;
  left = rest.left;
  names_are = ap (λ (others : List (Bor (List ℕ))). name ∷ others) rest.names_are;
  found = one.findings ∷ rest.found;
  are = (
    lifted (is_input name.now) (IsBroken result) Knows InputFailed name.now input one.findings one.is,
    subst (λ (i : Option (Option (List ℕ))). AreVisits (IsBroken result) Knows InputFailed i rest.visited rest.found) one.next_is rest.are,
  );
  tells = tells_then one.findings (all_of rest.found) value result old mid new one.tells rest.tells;
  rest = rest.rest;
  counted = counted_one before name rest.visited result rest.counted;
}

-- Nothing is printed, and something is revoked.
pub all_quiet : {W : Type 0} (Knows : Fact → Type 0) (InputFailed : Type 0) (quiet : Bool) (before : ℕ) (name : Bor (List ℕ)) (names : List (Bor (List ℕ))) (input next : Option (Option (List ℕ))) (value : Unit {0}) (old new : Auditor W)
    → Visits Knows InputFailed name.now input next {A = Unit {0}} (Ok value) old new → quiet ≡ true → 0 < new.counts.revoked
    → VisitsAll Knows InputFailed quiet before (name ∷ names) input (Ok (before + 1)) old new
all_quiet {W} Knows InputFailed quiet before name names input next value old new one is some = record {
  visited = name ∷ [];
  left = names;
  names_are = refl;
  found = one.findings ∷ [];
  are = (lifted (is_input name.now) ⊥ Knows InputFailed name.now input one.findings one.is, tt);
  tells = subst (λ (f : List Placed). Tells old f {A = ℕ} (Ok (before + 1)) new) (sym (append-nil one.findings)) (tells_as one.findings value (before + 1) old new one.tells);
  rest = subst (λ (q : Bool). MayBeLeft q new.counts.revoked {A = ℕ} (Ok (before + 1)) names) (sym is) (may names);
  counted = omega arith;
}
  where
    may : (names : List (Bor (List ℕ))) → MayBeLeft true new.counts.revoked {A = ℕ} (Ok (before + 1)) names
    may [] = tt
    may (name ∷ names) = some

pub all_stop : {W : Type 0} (Knows : Fact → Type 0) (InputFailed : Type 0) (quiet : Bool) (before : ℕ) (name : Bor (List ℕ)) (names : List (Bor (List ℕ))) (input next : Option (Option (List ℕ))) (stop : RunFault) (old new : Auditor W)
    → Visits Knows InputFailed name.now input next {A = Unit {0}} (Err stop) old new
    → VisitsAll Knows InputFailed quiet before (name ∷ names) input (Err stop) old new
all_stop {W} Knows InputFailed quiet before name names input next stop old new one = record {
  visited = name ∷ [];
  left = names;
  names_are = refl;
  found = one.findings ∷ [];
  are = (one.is, tt);
  tells = subst (λ (f : List Placed). Tells old f {A = ℕ} (Err stop) new) (sym (append-nil one.findings)) (tells_err {W = W} {A = Unit {0}} {B = ℕ} one.findings stop old new one.tells);
  rest = may quiet names;
  counted = tt;
}
  where
    may : (quiet : Bool) (names : List (Bor (List ℕ))) → MayBeLeft quiet new.counts.revoked {A = ℕ} (Err stop) names
    may quiet [] = tt
    may true (name ∷ names) = tt
    may false (name ∷ names) = tt

pub names_next : (names : List (Bor (List ℕ))) (i : ℕ) (name : Bor (List ℕ)) → name ≡ get_or names i name → i < length names → drop i names ≡ name ∷ drop (i + 1) names
names_next names i name is lt =
    let parts : drop i names ≡ get_or names i name ∷ drop (i + 1) names = rw add-one (drop-cons names i name lt) in
    parts ∙ ap (λ (one : Bor (List ℕ)). one ∷ drop (i + 1) names) (sym is)
