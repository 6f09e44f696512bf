-- Each line continues the reading, or stops it.
use Rattle.std.proofs.Common.{rules, arith}
use Rattle.text_entries.proofs.ReadLines.{all_read, line_read, line_stops, none_read}
use Rattle.text_entries.specs.Lines.{lines_with}
use Rattle.text_entries.proofs.reading.read_text.Goals as goal

pub lines-init : goal.lines-init
lines-init g c = record { reached = none_read _ _ _; counted = omega arith }

pub returns-in-Err-clause-reads : goal.returns-in-Err-clause-reads
unfolding lines_with
returns-in-Err-clause-reads g c =
    let at = rw c.split_line.ensures.lines at c.lines.invariant.reached in
    (line_stops _ c.args.text.now _ _ _ _ _ _ _ _ _ at c.in-Err.ensures).0

pub returns-in-Err-clause-held : goal.returns-in-Err-clause-held
unfolding lines_with
returns-in-Err-clause-held g c =
    let at = rw c.split_line.ensures.lines at c.lines.invariant.reached in
    (line_stops _ c.args.text.now _ _ _ _ _ _ _ _ _ at c.in-Err.ensures).1

pub returns-in_default-after-clause-reads : goal.returns-in_default-after-clause-reads
unfolding lines_with
returns-in_default-after-clause-reads g c =
    let at = rw (c.split_line.ensures.lines, c.in_default-after.is) at c.lines.invariant.reached in
    (all_read _ c.args.text.now _ _ _ _ (line_read _ _ _ _ _ _ _ _ _ _ at c.in_default.ensures)).0

pub returns-in_default-after-clause-held : goal.returns-in_default-after-clause-held
unfolding lines_with
returns-in_default-after-clause-held g c =
    let at = rw (c.split_line.ensures.lines, c.in_default-after.is) at c.lines.invariant.reached in
    (all_read _ c.args.text.now _ _ _ _ (line_read _ _ _ _ _ _ _ _ _ _ at c.in_default.ensures)).1

pub lines-preserved : goal.lines-preserved
lines-preserved g c =
    let at = rw (c.split_line.ensures.lines, c.in-Some.is) at c.lines.invariant.reached in
    let shorter = rw c.in-Some.is at c.split_line.ensures.shorter in
    record {
      reached = line_read _ _ _ _ _ _ _ _ _ _ at c.in_default.ensures;
      counted = search rules;
    }
