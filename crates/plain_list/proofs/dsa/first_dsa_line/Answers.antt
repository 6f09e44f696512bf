-- Each line has no DSA, or ends the search.
use Rattle.std.proofs.Common.{arith, sym, ◌∙◌}
use Rattle.plain_list.proofs.DsaLines.{at_first, next_line}
use Rattle.plain_list.proofs.dsa.first_dsa_line.Goals as goal

pub lines-init : goal.lines-init
lines-init c = record { reached = at_first _; counted = omega arith }

pub lines-preserved : goal.lines-preserved
lines-preserved c =
    let at = rw (c.split_line.ensures.lines, c.in-Some-after.is) at c.lines.invariant.reached in
    let shorter = rw c.in-Some-after.is at c.split_line.ensures.shorter in
    record {
      reached = next_line _ _ _ _ at (sym c.in_ok-part.ensures ∙ c.in_default.is);
      counted = omega (arith, shorter, c.lines.invariant.counted);
    }
