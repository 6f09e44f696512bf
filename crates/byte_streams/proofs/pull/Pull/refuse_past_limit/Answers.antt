-- The fault is kept.
use Rattle.std.proofs.Common.{refl, arith}
use Rattle.byte_streams.proofs.Pulling.{Refuses-misses}
use Rattle.byte_streams.proofs.pull.Pull.refuse_past_limit.Goals as goal

pub returns-clause-err : goal.returns-clause-err
returns-clause-err g c = rw (← c.self.view_is) (λ fresh. (c.refusal-fault.ensures.memory, Refuses-misses _ _ _ _ (c.refusal-fault.ensures.misses c.args.size (omega (arith, c.self.invariant.within, c.if-size-self.false))) refl refl refl))
