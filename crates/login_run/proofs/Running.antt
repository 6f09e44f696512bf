-- The end of a whole audit of logs.
use Rattle.std.proofs.Common.{◌≡◌, ℕ, Bool, List, [], ◌++◌, Option, Some, None, Result, Ok, Err, refl, sym, ap, subst, ◌∙◌, arith}
use Rattle.std.specs.Prelude.{not}
use Rattle.std.specs.Result.{result_err}
use Rattle.run_faults.specs.RunFault.{RunFault}
use Rattle.run_output.specs.Carries.{Carries}
use Rattle.run_output.specs.Done.{EndsWith}
use Rattle.run_output.specs.Run.{Item}
use Rattle.krl_types.specs.Subject.{Subject}
use Rattle.audit_text.specs.Answer.{Answer}
use Rattle.audit_run.specs.Fact.{Fact}
use Rattle.audit_run.proofs.Running.{some_answers}
use Rattle.krl_audit.specs.Audit.{IsUsable}
use Rattle.krl_audit.specs.Counts.{all_counted}
use Rattle.krl_audit.specs.declared.auditor.Auditor.{Auditor}
use Rattle.krl_audit.specs.declared.counts.Counts.{Counts}
use Rattle.krl_audit.specs.declared.judge.Shown.{Shown}
use Rattle.login_run.specs.Finding.{items_of, kinds_of}
use Rattle.login_run.specs.Run.{CameTo, VisitsOrder, last_if, stopped, summary_of, whole}
use Rattle.login_run.specs.Visits.{MayBeLeft, VisitsAll, all_of}
use Rattle.login_run.specs.declared.order.LoginOrder.{LoginOrder}
use Rattle.login_run.specs.declared.run.Queried.{Queried}

some_is : {A : Type 0} (x : A) → Some x ≡ None → ⊥
some_is x is = cc

-- All logs were visited, and the last object was printed if there is one.
pub order_visited : {W : Type 0} (Knows : Fact → Type 0) (InputFailed : Type 0) (order : LoginOrder) (queried : Queried) (input : Option (List ℕ))
    (files : ℕ) (result : Result (Unit {0}) RunFault) (old mid new : Auditor W)
    → VisitsAll Knows InputFailed (not old.judge.shown.revoked) 0 order.files.now (Some input) (Ok files) old mid
    → Carries (last_if queried.sha256 order.list.now (summary_of files mid.counts queried)) result mid.run.printer new.run.printer
    → new.counts ≡ mid.counts → old.judge.shown ≡ order.shown → IsUsable old.judge.texts
    → VisitsOrder Knows InputFailed order queried input files (result_err result) old new
order_visited Knows InputFailed order queried input files result old mid new visits last counts shown usable = record {
  came = λ answers judges none before said.
      let told = visits.tells.told answers judges in
      let items = items_of answers order.shown (all_of visits.found) in
      let carries : Carries items (Ok files) old.run.printer mid.run.printer =
      subst (λ (s : Shown). Carries (items_of answers s (all_of visits.found)) (Ok files) old.run.printer mid.run.printer) shown told.carries in
      let lasts : Carries (last_if queried.sha256 order.list.now (summary_of files new.counts queried)) result mid.run.printer new.run.printer =
      subst (λ (c : Counts). Carries (last_if queried.sha256 order.list.now (summary_of files c queried)) result mid.run.printer new.run.printer) (sym counts) last in
      record {
        result = Ok files;
        visited = visits.visited;
        left = visits.left;
        names_are = visits.names_are;
        found = visits.found;
        are = visits.are;
        rest = subst (λ (s : Shown). MayBeLeft (not s.revoked) new.counts.revoked {A = ℕ} (Ok files) visits.left) shown
            (subst (λ (c : Counts). MayBeLeft (not old.judge.shown.revoked) c.revoked {A = ℕ} (Ok files) visits.left) (sym counts) visits.rest);
        run = items ++ last_if queried.sha256 order.list.now (summary_of files new.counts queried);
        is_run = whole refl;
        end = lasts.says before items (carries.says before [] said);
        counted = λ is. (omega (arith, visits.counted), counts ∙ told.counts ∙ ap (λ (c : Counts). all_counted c (kinds_of answers (all_of visits.found))) none);
      };
  writer = last.writer ∙ (visits.tells.told (some_answers old.judge usable).0 (some_answers old.judge usable).1).carries.writer;
}

-- The run was stopped at a log.
pub order_stopped : {W : Type 0} (Knows : Fact → Type 0) (InputFailed : Type 0) (order : LoginOrder) (queried : Queried) (input : Option (List ℕ))
    (files : ℕ) (stop : RunFault) (old new : Auditor W)
    → VisitsAll Knows InputFailed (not old.judge.shown.revoked) 0 order.files.now (Some input) (Err stop) old new
    → old.judge.shown ≡ order.shown → IsUsable old.judge.texts
    → VisitsOrder Knows InputFailed order queried input files (Some stop) old new
order_stopped Knows InputFailed order queried input files stop old new visits shown usable = record {
  came = λ answers judges none before said.
      let told = visits.tells.told answers judges in
      let items = items_of answers order.shown (all_of visits.found) in
      let carries : Carries {A = ℕ} items (Err stop) old.run.printer new.run.printer =
      subst (λ (s : Shown). Carries {A = ℕ} (items_of answers s (all_of visits.found)) (Err stop) old.run.printer new.run.printer) shown told.carries in
      record {
        result = Err stop;
        visited = visits.visited;
        left = visits.left;
        names_are = visits.names_are;
        found = visits.found;
        are = visits.are;
        rest = subst (λ (s : Shown). MayBeLeft (not s.revoked) new.counts.revoked {A = ℕ} (Err stop) visits.left) shown visits.rest;
        run = items;
        is_run = stopped stop refl refl;
        end = carries.says before [] said;
        counted = λ is. absurd (some_is stop is);
      };
  writer = (visits.tells.told (some_answers old.judge usable).0 (some_answers old.judge usable).1).carries.writer;
}

-- the same way to another end
pub came_to : (Knows : Fact → Type 0) (InputFailed : Type 0) (order : LoginOrder) (queried : Queried) (input : Option (List ℕ)) (answers : Subject → Answer) (files : ℕ)
    (counts : Counts) (stop : Option RunFault) (A B : List Item → Type 0)
    → (came : CameTo Knows InputFailed order queried input answers files counts stop A) → B came.run → CameTo Knows InputFailed order queried input answers files counts stop B
came_to Knows InputFailed order queried input answers files counts stop A B came end = record {
  result = came.result;
  visited = came.visited;
  left = came.left;
  names_are = came.names_are;
  found = came.found;
  are = came.are;
  rest = came.rest;
  run = came.run;
  is_run = came.is_run;
  end = end;
  counted = came.counted;
}

-- the final state of the printer's writer is that of the writer
pub ends_there : (run : List Item) (before taken taken' : Option (List ℕ)) (failed failed' : Bool) (fault : Option RunFault)
    → EndsWith run before taken failed fault → taken' ≡ taken → failed' ≡ failed → EndsWith run before taken' failed' fault
ends_there run before taken taken' failed failed' fault ends is_taken is_failed = rw (is_taken, is_failed) ends
