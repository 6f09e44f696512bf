-- The list ends within its front, continues after it, or is refused.
use Rattle.krl_runs.proofs.Common.{[], ◌∙◌, arith, ask_by, Err, get_or, is_revoked, keys_of, Ok}
use Rattle.run_output.proofs.AnswerableKeys.{all_expected}
use Rattle.krl_core.proofs.WholeLists.{whole_unfaulted}
use Rattle.krl_runs.proofs.QueryRuns.{asked_refused, asked_run, entries_answer, held_list}
use Rattle.krl_runs.proofs.streaming.ask_streamed.Goals as goal

pub returns-in-Ok-true : goal.returns-in-Ok-true
returns-in-Ok-true g c =
    c.ask_rest.ensures (g.R.Source.left c.args.krl) (λ text e.
    let more = (c.in-Ok-true.ensures.more c.in-Ok-true.field-0-test).leads.reads text [] (c.new-front.ensures.start text e) in (_, more.1))

pub ask_rest-requires-clause-working : goal.ask_rest-requires-clause-working
ask_rest-requires-clause-working g c = (c.in-Ok-true.ensures.more c.in-Ok-true.field-0-test).leads.faultless

pub ask_rest-requires-clause-short : goal.ask_rest-requires-clause-short
ask_rest-requires-clause-short g c =
    let more = c.in-Ok-true.ensures.more c.in-Ok-true.field-0-test in
    omega (arith, more.within (omega (arith, c.new-front.ensures.untaken)), c.front_size.ensures)

pub done-header-requires : goal.done-header-requires
done-header-requires g c = (c.in-Ok-false.ensures.ends c.in-Ok-false.field-0-test).is.ended

pub returns-in-Ok-false : goal.returns-in-Ok-false
returns-in-Ok-false g c =
    let ends = c.in-Ok-false.ensures.ends c.in-Ok-false.field-0-test in
    let held = c.done-header.result.1 in
    let answers = held_list (g.R.Source.left c.args.krl) held c.done-header.result.0 c.done-header.ensures.orderly
    (λ text e. let whole = ends.whole text [] (c.new-front.ensures.start text e) in c.done-header.ensures.list text _ whole.1)
    (λ text e. let whole = ends.whole text [] (c.new-front.ensures.start text e) in whole_unfaulted _ text _ _ (c.done-header.ensures.whole text _ whole.1)) in (
      Ok answers.0,
      record { failure = c.done-header.ensures.failed ∙ ends.is.works; read = answers.1 },
      asked_run c.args.krl_name.now c.args.files.now answers.0 _ _ _ (c.print_files.ensures (ask_by (is_revoked answers.0)) (entries_answer (λ _. Unit {0}) held (is_revoked answers.0) (λ asked _. answers.2 asked))),
    )

pub returns-in-Err : goal.returns-in-Err
returns-in-Err g c = (
  Err c.in-Err.fault,
  rw (c.into_reader.ensures.left, c.into_reader.ensures.failed)
      (record { failure = c.in-Err.ensures.fault.failure c.new-front.ensures.faultless; read = λ text e. c.in-Err.ensures.fault.says text [] (c.new-front.ensures.start text e) }),
  rw (c.whole.ensures, c.cause_of.ensures) (asked_refused c.args.krl_name.now c.args.files.now c.in-Err.fault _),
)

pub print_files-requires : goal.print_files-requires
print_files-requires g c = λ k d lt. all_expected (λ _. Unit {0}) (λ _. tt) (keys_of (get_or c.args.files.now k d))
