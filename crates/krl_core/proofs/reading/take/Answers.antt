use Rattle.krl_core.proofs.Common.{◌≡◌, arith, cut, err_from_is_err_and, expected, length}
use Rattle.krl_core.proofs.Common.{length-take-le, Refuses, subst, take, ℕ}
use Rattle.krl_core.proofs.reading.take.Goals as goal

pub returns-in_err-fill-clause-err : goal.returns-in_err-fill-clause-err
returns-in_err-fill-clause-err g c =
    let size = (expected c.args.place).size in
    let whole : length (take size c.args.small.now) ≡ size = length-take-le size c.args.small.now (omega (arith, c.if-size-le-SMALL.true, c.size-size.ensures)) in
    let refuses = (rw c.size-size.ensures at (c.in_err-fill.ensures.err c.requires)).1 in
    let p = err_from_is_err_and c.from_residual.result c.from_residual.ensures.1 in
    rw p.1 (cut c.in_err-fill.field-0.0 (c.has_room.ensures.0 c.if-not-has_room.false) (subst (λ (n : ℕ). Refuses c.args.pull.now n c.in_err-fill.field-0.0 c.fill.new.self) whole refuses) p.2)

pub returns-in_err-bytes_into-clause-err : goal.returns-in_err-bytes_into-clause-err
returns-in_err-bytes_into-clause-err g c =
    let p = err_from_is_err_and c.from_residual-in_err-bytes_into.result c.from_residual-in_err-bytes_into.ensures.1 in
    rw p.1 (cut c.in_err-bytes_into.field-0.0 (c.has_room.ensures.0 c.if-not-has_room.false) (rw c.size-size.ensures at (c.in_err-bytes_into.ensures.err c.requires)) p.2)
