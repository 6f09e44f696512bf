use Rattle.krl_core.proofs.Common.{◌*◌, ◌+◌, ◌≤◌, arith, InScope, length-take, serial_within}
use Rattle.krl_core.proofs.Common.{SerialOf, subst, ℕ}
use Rattle.krl_core.proofs.buffered.serials_out_of_scope.Goals as goal

pub returns-clause-out_of_scope : goal.returns-clause-out_of_scope
returns-clause-out_of_scope g c = λ k fits is.
    let within : 8 * k + 8 ≤ c.min-count.result = omega (arith, fits, c.out_of_scope.ensures.within, length-take c.min-count.result c.args.bytes.now) in
    c.out_of_scope.ensures.out_of_scope k fits (subst (λ (s : ℕ). InScope c.args.stored.now.scope (SerialOf c.args.stored.now.authority s)) (serial_within c.args.bytes.now k c.min-count.result within) is)
