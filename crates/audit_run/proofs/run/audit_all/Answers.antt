-- All was audited, or the audit was stopped.
use Rattle.std.proofs.Common.{◌∙◌}
use Rattle.audit_run.proofs.Running.{ended_all, ended_stopped, ended_unread, some_answers}
use Rattle.audit_run.proofs.run.audit_all.Goals as goal

pub returns-in-Ok-true-clause-all : goal.returns-in-Ok-true-clause-all
returns-in-Ok-true-clause-all g c = λ answers before judges shown said.
    let went = c.in-Ok-true.ensures in
    rw c.err.ensures.value
    (ended_all _ _ _ _ answers before went.visits c.say_last.result c.args.round.now c.audit_met.new.round c.say_last.new.round
    (rw c.in-Ok-true.field-0-test at went.is) (went.audits.audits answers judges)
    c.say_last.ensures.carries went.audits.judge c.say_last.ensures.tally shown said)

pub returns-in-Ok-false-clause-all : goal.returns-in-Ok-false-clause-all
returns-in-Ok-false-clause-all g c = λ answers before judges shown said.
    let went = c.in-Ok-false.ensures in
    rw c.names_fault.ensures
    (ended_unread _ _ _ _ answers before went.visits c.args.round.now c.audit_met.new.round
    (rw c.in-Ok-false.field-0-test at went.is) (went.audits.audits answers judges)
    shown said)

pub returns-in-Err-clause-all : goal.returns-in-Err-clause-all
returns-in-Err-clause-all g c = λ answers before judges shown said.
    let went = c.in-Err.ensures in
    rw c.stop_fault.ensures
    (ended_stopped _ _ _ _ answers before went.visits c.in-Err.stop c.args.round.now c.audit_met.new.round went.is (went.audits.audits answers judges)
    went.audits.judge shown said)

pub returns-in-Ok-true-clause-writer : goal.returns-in-Ok-true-clause-writer
returns-in-Ok-true-clause-writer g c =
    c.say_last.ensures.carries.writer ∙ (c.in-Ok-true.ensures.audits.audits (some_answers c.args.round.now.judge c.requires.texts).0 (some_answers c.args.round.now.judge c.requires.texts).1).writer

pub returns-in-Ok-false-clause-writer : goal.returns-in-Ok-false-clause-writer
returns-in-Ok-false-clause-writer g c = (c.in-Ok-false.ensures.audits.audits (some_answers c.args.round.now.judge c.requires.texts).0 (some_answers c.args.round.now.judge c.requires.texts).1).writer

pub returns-in-Err-clause-writer : goal.returns-in-Err-clause-writer
returns-in-Err-clause-writer g c = (c.in-Err.ensures.audits.audits (some_answers c.args.round.now.judge c.requires.texts).0 (some_answers c.args.round.now.judge c.requires.texts).1).writer
