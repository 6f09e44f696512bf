-- The fault is kept.
use Rattle.std.proofs.Common.{◌≡◌, ◌+◌, ◌-◌, refl, arith}
use Rattle.byte_streams.proofs.Pulling.{RefusesRest-misses}
use Rattle.byte_streams.proofs.pull.Pull.rest.Goals as goal

pub returns-in-Err-clause-err : goal.returns-in-Err-clause-err
returns-in-Err-clause-err g c =
    let taken = c.self.inside.taken in
    let limit = c.self.inside.limit in
    let sum : taken + (limit - taken) ≡ limit = omega (arith, c.self.invariant.within) in
    rw (← c.self.view_is) (λ fresh. RefusesRest-misses _ _ _ (c.in-Err.ensures.misses taken limit sum) refl refl refl)
