-- Each key continues the run, or stops it.
use Rattle.std.proofs.Common.{◌∷◌, Ok, Result, ap, ◌∙◌}
use Rattle.std.proofs.lemmas.Result.{err_from_is_err_and}
use Rattle.run_faults.specs.Keys.{Named, FileKey}
use Rattle.run_faults.specs.RunFault.{RunFault}
use Rattle.run_output.proofs.AnsweredFiles.{file_ends, file_is_unanswered, file_stopped, key_refused, key_said, key_stops, none_reached}
use Rattle.run_output.proofs.AnswerableKeys.{first_expected, rest_expected}
use Rattle.run_output.proofs.iteration.print_file.Goals as goal

pub loop-next-init : goal.loop-next-init
loop-next-init g c = rw (c.into_iter-next-iterator.ensures.into_iter_gives, c.keys_of-next-items.ensures.keys) (λ answering _. none_reached answering c.args.file.now c.args.run.now.printer, c.requires)

pub returns-in_err-key : goal.returns-in_err-key
returns-in_err-key g c =
    let p = err_from_is_err_and c.from_residual.result c.from_residual.ensures.1 in
    let given = rw c.in_err-key.was at c.in-Some.ensures.steps in
    let reached = rw given.1.0 at c.loop-next.invariant.0 in
    rw (p.1, p.2) (λ answering is. file_stopped answering c.args.file.now _ _ _ (key_refused _ _ given.0 c.next.new.self _ _ _ _ (reached answering is) given.1.1))

pub returns-in_err-said : goal.returns-in_err-said
returns-in_err-said g c =
    let p = err_from_is_err_and c.from_residual-in_err-said.result c.from_residual-in_err-said.ensures.1 in
    let given = rw c.in_ok-key.was at c.in-Some.ensures.steps in
    let reached = rw (given.1.0 ∙ ap (λ (next : Result FileKey RunFault). next ∷ c.next.new.self) given.1.1) at c.loop-next.invariant.0 in
    rw (p.1, p.2) (λ answering is. file_stopped answering c.args.file.now _ _ _ (key_stops _ _ (Ok c.in_ok-key.key) c.next.new.self _ _ _ _ _ (reached answering is) (c.in_err-said.ensures.carries answering is)))

pub print_key-requires : goal.print_key-requires
print_key-requires g c =
    let given = rw c.in_ok-key.was at c.in-Some.ensures.steps in
    let expected = rw (given.1.0 ∙ ap (λ (next : Result FileKey RunFault). next ∷ c.next.new.self) given.1.1) at c.loop-next.invariant.1 in
    first_expected (g.A.Answers.expects c.args.answers.now) c.in_ok-key.key c.next.new.self expected

pub loop-next-preserved : goal.loop-next-preserved
loop-next-preserved g c =
    let given = rw c.in_ok-key.was at c.in-Some.ensures.steps in
    let reached = rw (given.1.0 ∙ ap (λ (next : Result FileKey RunFault). next ∷ c.next.new.self) given.1.1) at c.loop-next.invariant in (
      λ answering is. rw (c.in_ok-said.ensures.said answering is) (key_said _ _ (Ok c.in_ok-key.key) c.next.new.self _ _ _ _ _ (reached.0 answering is) (c.in_ok-said.ensures.carries answering is)),
      rest_expected (g.A.Answers.expects c.args.answers.now) c.in_ok-key.key c.next.new.self c.in_ok-said.ensures.read reached.1,
    )

pub loop-next-preserved-in_ok-said : goal.loop-next-preserved-in_ok-said
loop-next-preserved-in_ok-said g c =
    let given = rw c.in_ok-key.was at c.in-Some.ensures.steps in
    let reached = rw (given.1.0 ∙ ap (λ (next : Result FileKey RunFault). next ∷ c.next.new.self) given.1.1) at c.loop-next.invariant in (
      λ answering is. rw (c.in_ok-said.ensures.said answering is) (key_said _ _ (Ok c.in_ok-key.key) c.next.new.self _ _ _ _ _ (reached.0 answering is) (c.in_ok-said.ensures.carries answering is)),
      rest_expected (g.A.Answers.expects c.args.answers.now) c.in_ok-key.key c.next.new.self c.in_ok-said.ensures.read reached.1,
    )

pub returns-then-not-said : goal.returns-then-not-said
returns-then-not-said g c =
    let reached = rw (c.in-None.ensures.steps.0, c.if-not-said.true) at c.loop-next.invariant.0 in
    λ answering is. rw (c.whole.ensures, c.unanswered.ensures answering is, ap (λ (file : Named). file.name) c.file.view_is) (file_is_unanswered answering c.args.file.now _ _ (reached answering is))

pub returns : goal.returns
returns g c =
    let reached = rw (c.in-None.ensures.steps.0, c.if-not-said.false) at c.loop-next.invariant.0 in
    λ answering is. file_ends answering c.args.file.now _ _ (reached answering is)
