-- Each line continues the reading, or ends it.
use Rattle.std.proofs.Common.{arith}
use Rattle.plain_list.proofs.LinesRead.{all_read, next_line, none_read}
use Rattle.plain_list.proofs.reading.read_plain.Goals as goal

pub lines-init : goal.lines-init
lines-init g c = record { reached = none_read _ _ c.new-revoked.ensures.means; counted = omega arith }

pub returns-in_default-clause-found : goal.returns-in_default-clause-found
returns-in_default-clause-found g c =
    let at = rw (c.split_line.ensures.lines, c.in_default.is) at c.lines.invariant.reached in
    (all_read c.args.text.now _ _ (next_line _ _ _ _ _ _ at c.in_ok-add_line.ensures.read c.in_ok-add_line.ensures.adds)).1

pub returns-in_default-clause-only : goal.returns-in_default-clause-only
returns-in_default-clause-only g c =
    let at = rw (c.split_line.ensures.lines, c.in_default.is) at c.lines.invariant.reached in
    (all_read c.args.text.now _ _ (next_line _ _ _ _ _ _ at c.in_ok-add_line.ensures.read c.in_ok-add_line.ensures.adds)).0

pub lines-preserved : goal.lines-preserved
lines-preserved g c =
    let at = rw (c.split_line.ensures.lines, c.in-Some.is) at c.lines.invariant.reached in
    let shorter = rw c.in-Some.is at c.split_line.ensures.shorter in
    record {
      reached = next_line _ _ _ _ _ _ at c.in_ok-add_line.ensures.read c.in_ok-add_line.ensures.adds;
      counted = omega (arith, shorter, c.lines.invariant.counted);
    }
