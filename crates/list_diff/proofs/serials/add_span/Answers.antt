-- The first gap is added, and the numbers after the members that follow it are left.
use Rattle.list_diff.proofs.Common.{IsGap, List, refl, Span, subst, ◌∙◌}
use Rattle.list_diff.proofs.Gains.{owes_all, owes_less, owes_none, serial_none, serial_parts}
use Rattle.list_diff.proofs.Gaps.{numbers_less, range_more}
use Rattle.list_diff.proofs.serials.add_span.Goals as goal

pub loop-next-init : goal.loop-next-init
loop-next-init g c = record { same = refl; range = c.requires; owes = owes_all _ _ }

pub gap_of-gap-requires : goal.gap_of-gap-requires
gap_of-gap-requires g c = (rw c.in-Some.is at c.loop-next.invariant.range).1

pub add_gap-requires-clause-from_one : goal.add_gap-requires-clause-from_one
add_gap-requires-clause-from_one g c = (rw c.in-Some.is at c.loop-next.invariant.range).0

pub add_gap-requires-clause-ordered : goal.add_gap-requires-clause-ordered
add_gap-requires-clause-ordered g c = (c.gap_of-gap.ensures c.loop-next.others c.first_from.ensures.first).some

pub loop-next-preserved : goal.loop-next-preserved
loop-next-preserved g c =
    let i = c.loop-next.invariant in
    let lo = c.in-Some.lo in
    let hi = c.args.span.hi in
    let gap = c.gap_of-gap.result in
    let is = subst (λ (others : List Span). IsGap lo hi others gap) i.same (c.gap_of-gap.ensures c.loop-next.others c.first_from.ensures.first) in
    record {
      same = c.first_from.ensures.same ∙ i.same;
      range = range_more gap.next lo hi is.rises;
      owes = owes_less _ _ _ _ _ _ _ (rw c.in-Some.is at i.owes) c.in_ok-add_gap.ensures (serial_parts c.args.authority.now _ _ _ is.parts);
    }

pub loop-next-smaller : goal.loop-next-smaller
loop-next-smaller g c =
    let lo = c.in-Some.lo in
    let hi = c.args.span.hi in
    let is = c.gap_of-gap.ensures c.loop-next.others c.first_from.ensures.first in
    rw c.in-Some.is (numbers_less c.gap_of-gap.result.next lo hi (rw c.in-Some.is at c.loop-next.invariant.range).1 is.rises)

pub returns-clause-gains : goal.returns-clause-gains
returns-clause-gains g c = owes_none _ _ _ _ (rw c.in_default.is at c.loop-next.invariant.owes) (serial_none c.args.authority.now _ (λ s h. h))
