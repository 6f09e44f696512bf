-- One number more is in the set.
use Rattle.std.proofs.Common.{suc, ◌+◌, ◌<◌, ◌≡◌, length, arith}
use Rattle.text_index.proofs.Explained.{one_more_number}
use Rattle.text_index.proofs.explaining.insert_all.Goals as goal

pub lines-preserved : goal.lines-preserved
lines-preserved c =
    let less : c.lines.line-index < length c.args.lines.now = omega arith in
    let next : c.lines.line-index + 1 ≡ suc c.lines.line-index = omega arith in
    rw next (one_more_number c.args.lines.now c.args.found.now.keys c.lines.found.keys c.insert.new.self.keys c.lines.line-index less c.in_ok-insert.ensures.updates.0 c.lines.invariant)
