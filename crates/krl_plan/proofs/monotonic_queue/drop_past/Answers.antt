use Rattle.krl_plan.proofs.Candidates.{forgets_back}
use Rattle.krl_plan.proofs.monotonic_queue.drop_past.Goals as goal

pub returns-then-oldest-limit-clause-forgotten : goal.returns-then-oldest-limit-clause-forgotten
returns-then-oldest-limit-clause-forgotten c =
    forgets_back c.args.candidates.now.items c.loop-oldest.candidates.items c.args.limit c.in-Some.oldest.now c.requires.ordered c.loop-oldest.invariant.back
    c.loop-oldest.invariant.few c.loop-oldest.invariant.past (λ some. c.in-Some.ensures.lookup) c.if-oldest-limit.true
