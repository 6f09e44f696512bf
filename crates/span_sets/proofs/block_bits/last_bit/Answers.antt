use Rattle.span_sets.proofs.Common.{◌≡◌, arith, bit_at, bit_at_not, subst, w64}
use Rattle.span_sets.proofs.BitMembers.{first_clear, set_before}
use Rattle.span_sets.proofs.block_bits.last_bit.Goals as goal

pub returns-in-Some-clause-order : goal.returns-in-Some-clause-order
returns-in-Some-clause-order c =
    let past = first_clear c.args.bits c.args.bit c.in-Some.at (omega arith) c.requires.set c.in-Some.ensures in omega arith

pub returns-in-Some-clause-all : goal.returns-in-Some-clause-all
returns-in-Some-clause-all c i h k =
    let past = first_clear c.args.bits c.args.bit c.in-Some.at (omega arith) c.requires.set c.in-Some.ensures in
    let e = c.in-Some.ensures in
    set_before c.args.bits i (omega arith) (omega (arith, e.1)) (e.3 i h (omega arith))

pub returns-in-None-clause-all : goal.returns-in-None-clause-all
returns-in-None-clause-all c i h k = set_before c.args.bits i (omega arith) (omega arith) (c.in-None.ensures i h (omega arith))

pub returns-in-Some-clause-last : goal.returns-in-Some-clause-last
returns-in-Some-clause-last c h =
    let e = c.in-Some.ensures in
    let past = first_clear c.args.bits c.args.bit c.in-Some.at (omega arith) c.requires.set e in
    let not = bit_at_not w64 c.args.bits c.in-Some.at (omega arith) e.1 in
    subst (λ i. bit_at c.args.bits i ≡ 0) {x = c.in-Some.at} (omega arith) (omega (arith, not, e.2))
