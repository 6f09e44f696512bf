use Rattle.span_sets.proofs.Common.{and_le_l, arith, IsFirstBit, Some, subst, sym}
use Rattle.span_sets.proofs.BitMembers.{none_set, first_set}
use Rattle.span_sets.proofs.block_bits.first_bit.Goals as goal

pub returns-then-rest-eq0 : goal.returns-then-rest-eq0
returns-then-rest-eq0 c = none_set c.args.bits c.args.bit c.mask.result c.mask.ensures c.if-rest-eq0.true

pub returns : goal.returns
returns c =
    let fits = and_le_l c.args.bits c.mask.result in
    subst (λ n. IsFirstBit c.args.bits c.args.bit (Some n)) (sym c.from.ensures)
    (first_set c.args.bits c.args.bit c.mask.result c.requires c.mask.ensures (omega arith) (omega arith))
