-- The list is made and put, or there is a fault.
use Rattle.std.proofs.Common.{◌∙◌}
use Rattle.list_making.specs.Making.{refused, unheld}
use Rattle.list_making.proofs.Kept.{kept_then, put_failed}
use Rattle.list_making.proofs.making.make_once.Goals as goal

pub returns-in-Err-clause-why : goal.returns-in-Err-clause-why
returns-in-Err-clause-why g c = unheld c.in-Err.cause c.fault.ensures

pub returns-in-Err-made-clause-why : goal.returns-in-Err-made-clause-why
returns-in-Err-made-clause-why g c =
    let was = rw c.in-Err-made.is at c.make-made.ensures.refused in
    refused _ (λ e. c.is_changed.ensures.same c.if-is_changed.false _ (c.in-Ok.ensures.read (c.reads_old.ensures ∙ e))) was

pub returns-in-Err-put-clause-why : goal.returns-in-Err-put-clause-why
returns-in-Err-put-clause-why g c = unheld c.in-Err-put.cause c.fault-in-Err-put.ensures

pub returns-in-Err-put-clause-kept : goal.returns-in-Err-put-clause-kept
returns-in-Err-put-clause-kept g c =
    put_failed g.P.Target.holds g.P.Target.overtaken (g.M.Maker.fault_of c.args.maker.now) c.args.place.now c.is_changed.new.self c.put.new.self _ c.in-Err-put.cause
    (kept_then g.P.Target.holds g.P.Target.overtaken c.args.place.now c.hold.new.self c.is_changed.new.self c.in-Ok.ensures.kept c.is_changed.ensures.kept) c.in-Err-put.ensures.failed c.fault-in-Err-put.ensures
