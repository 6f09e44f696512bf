use Rattle.krl_core.proofs.Common.{err_from_is_err_and, false≢true, working}
use Rattle.krl_core.proofs.BufferedFields.{one_more}
use Rattle.krl_core.proofs.ListEnds.{ends_here}
use Rattle.krl_core.proofs.Steps.{end_refused, missed_says, refused_says, bounded_more}
use Rattle.krl_core.proofs.reading.read_field.Goals as goal

pub returns-in_err-ends-clause-fault : goal.returns-in_err-ends-clause-fault
returns-in_err-ends-clause-fault g c =
    let e = c.in_err-ends.ensures.err in
    let p = err_from_is_err_and c.from_residual.result c.from_residual.ensures.1 in
    rw (p.1, p.2) (end_refused (working c.args.pull.now c.args.place.now c.args.stored.now) c.ends.new.pull c.in_err-ends.field-0.0 c.requires.bounded e.0 e.1 e.2)

pub returns-in_err-field-clause-fault : goal.returns-in_err-field-clause-fault
returns-in_err-field-clause-fault g c =
    let p = err_from_is_err_and c.from_residual-in_err-field.result c.from_residual-in_err-field.ensures.1 in
    rw (p.1, p.2) (missed_says (working c.args.pull.now c.args.place.now c.args.stored.now) c.ends.new.pull c.take.new.pull c.in_err-field.field-0.0 c.requires.bounded
    (rw c.if-branch.false at c.in_ok-ends.ensures.ok) c.in_err-field.ensures.err c.in_err-field.ensures.memory)

pub returns-in_err-place-clause-fault : goal.returns-in_err-place-clause-fault
returns-in_err-place-clause-fault g c =
    let p = err_from_is_err_and c.from_residual-in_err-place.result c.from_residual-in_err-place.ensures.1 in
    rw (p.1, p.2) (refused_says (working c.args.pull.now c.args.place.now c.args.stored.now) c.ends.new.pull c.take.new.pull c.in_ok-field.field.now c.in_err-place.field-0.0 c.requires.bounded
    (rw c.if-branch.false at c.in_ok-ends.ensures.ok) c.in_ok-field.ensures.ok c.in_ok-field.ensures.room c.in_ok-field.ensures.size c.in_err-place.ensures.err)

pub returns-in_err-place-clause-bounds : goal.returns-in_err-place-clause-bounds
returns-in_err-place-clause-bounds g c =
    let looks = rw c.if-branch.false at c.in_ok-ends.ensures.ok in
    bounded_more (working c.args.pull.now c.args.place.now c.args.stored.now) c.ends.new.pull c.take.new.pull c.judge_and_store.new.stored c.in_ok-field.field.now c.requires.bounded
    looks.taken looks.limit_is c.in_ok-field.ensures.ok c.judge_and_store.ensures.grows

pub returns-then-branch-clause-ends : goal.returns-then-branch-clause-ends
returns-then-branch-clause-ends g c =
    (λ _. ends_here (working c.args.pull.now c.args.place.now c.args.stored.now) c.ends.new.pull (rw c.if-branch.true at c.in_ok-ends.ensures.ok))

pub returns-clause-more : goal.returns-clause-more
returns-clause-more g c =
    (λ _. one_more (working c.args.pull.now c.args.place.now c.args.stored.now) c.ends.new.pull c.take.new.pull c.in_ok-place.field-0 c.judge_and_store.new.stored c.in_ok-field.field.now
    c.requires.bounded (rw c.if-branch.false at c.in_ok-ends.ensures.ok) c.in_ok-field.ensures.ok c.in_ok-place.ensures.passes c.in_ok-place.ensures.bytes c.in_ok-place.ensures.stores_field)

pub returns-clause-bounds : goal.returns-clause-bounds
returns-clause-bounds g c =
    let looks = rw c.if-branch.false at c.in_ok-ends.ensures.ok in
    bounded_more (working c.args.pull.now c.args.place.now c.args.stored.now) c.ends.new.pull c.take.new.pull c.judge_and_store.new.stored c.in_ok-field.field.now c.requires.bounded
    looks.taken looks.limit_is c.in_ok-field.ensures.ok c.judge_and_store.ensures.grows

pub returns-clause-sound : goal.returns-clause-sound
returns-clause-sound g c =
    let looks = rw c.if-branch.false at c.in_ok-ends.ensures.ok in
    record {
      in_step = λ _. c.in_ok-place.ensures.stores_field.in_step;
      pull_faultless = λ _. c.in_ok-field.ensures.ok.is_faultless;
      works = λ _. c.in_ok-field.ensures.ok.working;
      ends = λ off. absurd (false≢true off);
      bounded = bounded_more (working c.args.pull.now c.args.place.now c.args.stored.now) c.ends.new.pull c.take.new.pull c.judge_and_store.new.stored c.in_ok-field.field.now c.requires.bounded
          looks.taken looks.limit_is c.in_ok-field.ensures.ok c.judge_and_store.ensures.grows;
    }
