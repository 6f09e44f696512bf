-- Each key is added to the queries, up to the first fault.
use Rattle.krl_runs.proofs.Common.{◌∙◌, ◌∷◌, ◌≡◌, ◌≢◌, ap, AreExpected, Asks, FileKey, keys_of}
use Rattle.krl_runs.proofs.Common.{Result, RunFault}
use Rattle.run_faults.specs.declared.cause.Cause.TheVariants.{NoMemory}
use Rattle.krl_queries.proofs.MoreQuestions.{on_ok_with}
use Rattle.krl_runs.proofs.Bounds.{room_next}
use Rattle.krl_runs.proofs.ExpectedKeys.{fault_expected, key_expected}
use Rattle.krl_runs.proofs.questions.ask_file.Goals as goal

pub loop-next-preserved-else-not-branch : goal.loop-next-preserved-else-not-branch
loop-next-preserved-else-not-branch c =
    let asked = c.in_ok-ask_key-in-Ok.ensures in
    let given = rw c.in-Ok.is at c.in-Some.ensures.steps in
    let first = given.1.0 ∙ ap (λ (next : Result FileKey RunFault). next ∷ c.next.new.self) given.1.1 in
    let before = rw first at c.loop-next.invariant.asked in
    let within = rw first at c.loop-next.invariant.within in
    record {
      found = asked.found ∙ c.loop-next.invariant.found;
      orderly = asked.orderly;
      more = λ name h. asked.more name (c.loop-next.invariant.more name h);
      asked = λ later more rest. before later (λ name h. more name (asked.more name h))
          (key_expected c.ask_key.new.questions.topics later c.in-Ok.key c.next.new.self more asked.asked rest);
      within = room_next _ c.in-Ok.key c.next.new.self _ _ _ within asked.within;
    }

pub loop-next-preserved : goal.loop-next-preserved
loop-next-preserved c =
    let asked = c.in_ok-ask_key-in-Ok.ensures in
    let given = rw c.in-Ok.is at c.in-Some.ensures.steps in
    let first = given.1.0 ∙ ap (λ (next : Result FileKey RunFault). next ∷ c.next.new.self) given.1.1 in
    let before = rw first at c.loop-next.invariant.asked in
    let within = rw first at c.loop-next.invariant.within in
    record {
      found = asked.found ∙ c.loop-next.invariant.found;
      orderly = asked.orderly;
      more = λ name h. asked.more name (c.loop-next.invariant.more name h);
      asked = λ later more rest. before later (λ name h. more name (asked.more name h))
          (key_expected c.ask_key.new.questions.topics later c.in-Ok.key c.next.new.self more asked.asked rest);
      within = room_next _ c.in-Ok.key c.next.new.self _ _ _ within asked.within;
    }

pub returns-in-Err-clause-asked : goal.returns-in-Err-clause-asked
returns-in-Err-clause-asked c =
    let given = rw c.in-Err.is at c.in-Some.ensures.steps in
    let before = rw given.1.0 at c.loop-next.invariant.asked in
    let topics = c.loop-next.questions.topics in
    let cause : c.stop.inside.cause ≡ c.in-Err.stop.cause = ap (λ (stop : RunFault). stop.cause) c.stop.view_is in
    let known = rw cause at c.stopped_by.ensures in
    on_ok_with {P = c.in-Err.stop.cause ≢ NoMemory} {Q = c.in-Err.stop.cause ≢ NoMemory} {R = AreExpected (Asks topics) (keys_of c.args.file.now)} c.stopped_by.result
    (λ known _. before topics (λ name h. h) (fault_expected (Asks topics) given.0 c.in-Err.stop c.next.new.self given.1.1 known)) known known

pub returns-clause-asked : goal.returns-clause-asked
returns-clause-asked c =
    let before = rw c.in-None.ensures.steps.0 at c.loop-next.invariant.asked in
    before c.loop-next.questions.topics (λ name h. h) tt
