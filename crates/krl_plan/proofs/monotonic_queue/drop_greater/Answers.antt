use Rattle.std.proofs.Common.{◌-◌, arith}
use Rattle.krl_plan.proofs.Candidates.{front_dropped, front_within}
use Rattle.krl_plan.proofs.monotonic_queue.drop_greater.Goals as goal

pub returns-then-newest-value-clause-within : goal.returns-then-newest-value-clause-within
returns-then-newest-value-clause-within c =
    let ok = c.loop-newest.candidates.ok in
    front_within c.args.candidates.now.items c.loop-newest.candidates.items c.args.value (c.loop-newest.candidates.len - 1) c.in-Some.newest.now c.requires.ordered
    c.loop-newest.invariant.front (omega arith) c.in-Some.ensures.lookup c.if-newest-value.true

pub returns-then-newest-value-clause-dropped : goal.returns-then-newest-value-clause-dropped
returns-then-newest-value-clause-dropped c =
    front_dropped c.args.candidates.now.items c.loop-newest.candidates.items c.args.value c.loop-newest.invariant.front c.loop-newest.invariant.past
