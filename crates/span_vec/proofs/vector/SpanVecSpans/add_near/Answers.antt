use Rattle.std.proofs.Common.{length, ap, arith}
use Rattle.span_sets.proofs.NearSpans.{adds_more}
use Rattle.span_vec.proofs.vector.SpanVecSpans.add_near.Goals as goal

pub returns-clause-as_many_more : goal.returns-clause-as_many_more
returns-clause-as_many_more c =
    let same = ap length c.in_ok-reserve.ensures.items in
    omega (arith, same, adds_more c.reserve.new.self.items c.args.near.now c.add_all.new.items.items c.add_all.ensures.runs)
