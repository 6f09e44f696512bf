use Rattle.std.proofs.Common.{◌<◌, length, rules}
use Rattle.krl_plan.proofs.Candidates.{first_least}
use Rattle.krl_plan.proofs.monotonic_queue.MonotonicQueue.least.Goals as goal

pub returns-clause-least : goal.returns-clause-least
returns-clause-least c =
    let some : 0 < length c.args.self.now.candidates.items = search rules in
    first_least c.args.self.now.candidates.items c.in_ok-oldest.oldest.now c.args.self.now.ordered some c.in_ok-oldest.ensures.lookup
