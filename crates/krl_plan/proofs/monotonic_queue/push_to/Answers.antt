use Rattle.krl_plan.proofs.Candidates.{push_pushes}
use Rattle.krl_plan.proofs.monotonic_queue.push_to.Goals as goal

pub returns-clause-pushed : goal.returns-clause-pushed
returns-clause-pushed c =
    rw c.in_ok-push_back.ensures.items
    (push_pushes c.args.candidates.now.items c.drop_greater.new.candidates.items c.args.candidate c.requires.before c.drop_greater.ensures.front c.drop_greater.ensures.dropped)
