-- The first members are within the numbers.
use Rattle.list_diff.proofs.Common.{arith, IsFirst, ◌≤◌}
use Rattle.list_diff.proofs.Gaps.{gap_parts, last_some, next_rises}
use Rattle.list_diff.proofs.gap.gap_of.Goals as goal

pub returns : goal.returns
returns c = λ others from.
    let lo = c.args.lo in
    let hi = c.args.hi in
    let run = c.in-Some.run' in
    let first : IsFirst others lo run = rw c.in-Some.is at from in
    let last = c.last_below-last in
    let next = c.next_past-next in
    let within : lo ≤ run.hi = omega (arith, first.from, first.some) in
    record {
      parts = gap_parts lo hi others run last.result next.result first c.if-hi-run.false last.ensures next.ensures;
      some = last_some last.result lo run.lo last.ensures;
      rises = next_rises next.result lo run.hi hi within next.ensures;
    }
