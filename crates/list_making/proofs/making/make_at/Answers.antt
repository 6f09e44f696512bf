-- A try has a fault, or there were too many.
use Rattle.std.proofs.lemmas.Result.{err_from_is_err_and}
use Rattle.list_making.specs.Making.{unheld}
use Rattle.list_making.proofs.Kept.{untouched_then}
use Rattle.list_making.proofs.making.make_at.Goals as goal

pub returns-in_err-made-clause-kept : goal.returns-in_err-made-clause-kept
returns-in_err-made-clause-kept g c =
    let p = err_from_is_err_and c.from_residual.result c.from_residual.ensures.1 in
    rw (p.1, p.2) (untouched_then g.P.Target.holds g.P.Target.overtaken (g.M.Maker.fault_of c.args.maker.now) c.args.place.now c.loop.place c.make_once.new.place _ c.loop.invariant c.in_err-made.ensures.kept)

pub returns-clause-why : goal.returns-clause-why
returns-clause-why g c = unheld _ c.fault.ensures
