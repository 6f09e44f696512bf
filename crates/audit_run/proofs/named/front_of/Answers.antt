-- The name is long enough.
use Rattle.std.proofs.Common.{◌≤◌, arith, length, sym}
use Rattle.std.proofs.lemmas.List.{length-take-le}
use Rattle.audit_run.proofs.named.front_of.Goals as goal

pub slice_bounds-result-end : goal.slice_bounds-result-end
slice_bounds-result-end c =
    let fits : 4096 ≤ length c.args.name.now = omega (arith, c.requires) in
    sym (length-take-le 4096 c.args.name.now fits)
