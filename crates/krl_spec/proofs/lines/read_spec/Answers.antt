-- Each line continues the reading, or stops it.
use Rattle.std.proofs.Common.{rules, refl, arith}
use Rattle.krl_spec.proofs.Growth.{line_stored, next_stored, none_grows}
use Rattle.krl_spec.proofs.ReadLines.{all_read, line_read, line_stops, none_read}
use Rattle.krl_spec.proofs.lines.read_spec.Goals as goal

pub lines-init : goal.lines-init
lines-init g c = record { reached = none_read _ _ _; stored = none_grows _ _ _; counted = omega arith }

pub returns-in-Err-clause-reads : goal.returns-in-Err-clause-reads
returns-in-Err-clause-reads g c =
    let at = rw c.split_line.ensures.lines at c.lines.invariant.reached in
    (line_stops _ _ _ _ _ _ _ _ _ _ refl at c.in-Err.ensures.adds).0

pub returns-in-Err-clause-held : goal.returns-in-Err-clause-held
returns-in-Err-clause-held g c =
    let at = rw c.split_line.ensures.lines at c.lines.invariant.reached in
    (line_stops _ _ _ _ _ _ _ _ _ _ refl at c.in-Err.ensures.adds).1

pub returns-in-Err-clause-stored : goal.returns-in-Err-clause-stored
returns-in-Err-clause-stored g c =
    line_stored _ _ _ _ _ _ _ _ c.lines.invariant.counted c.split_line.ensures.within c.lines.invariant.stored c.in-Err.ensures.grows

pub returns-in_default-after-clause-reads : goal.returns-in_default-after-clause-reads
returns-in_default-after-clause-reads g c =
    let at = rw (c.split_line.ensures.lines, c.in_default-after.is) at c.lines.invariant.reached in
    (all_read _ _ _ _ _ (line_read _ _ _ _ _ _ _ _ _ refl at c.in_default.ensures.adds)).0

pub returns-in_default-after-clause-held : goal.returns-in_default-after-clause-held
returns-in_default-after-clause-held g c =
    let at = rw (c.split_line.ensures.lines, c.in_default-after.is) at c.lines.invariant.reached in
    (all_read _ _ _ _ _ (line_read _ _ _ _ _ _ _ _ _ refl at c.in_default.ensures.adds)).1

pub returns-in_default-after-clause-stored : goal.returns-in_default-after-clause-stored
returns-in_default-after-clause-stored g c =
    line_stored _ _ _ _ _ _ _ _ c.lines.invariant.counted c.split_line.ensures.within c.lines.invariant.stored c.in_default.ensures.grows

pub lines-preserved : goal.lines-preserved
lines-preserved g c =
    let at = rw (c.split_line.ensures.lines, c.in-Some.is) at c.lines.invariant.reached in
    let shorter = rw c.in-Some.is at c.split_line.ensures.shorter in
    record {
      reached = line_read _ _ _ _ _ _ _ _ _ refl at c.in_default.ensures.adds;
      stored = next_stored _ _ _ _ _ _ _ _ _ c.lines.invariant.counted shorter c.lines.invariant.stored c.in_default.ensures.grows;
      counted = search rules;
    }
