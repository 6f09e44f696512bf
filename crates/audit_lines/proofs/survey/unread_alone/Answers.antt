-- One more line was counted.
use Rattle.std.proofs.Common.{arith}
use Rattle.std.specs.List.{slice_split}
use Rattle.key_text.specs.Lines.{is_newline}
use Rattle.audit_lines.proofs.Surveying.{counted_on}
use Rattle.audit_lines.proofs.survey.unread_alone.Goals as goal

pub loop-more-preserved : goal.loop-more-preserved
loop-more-preserved c =
    let split = rw c.in-Some-after.is at c.split_line.ensures.lines in
    let shorter = rw c.in-Some-after.is at c.split_line.ensures.shorter in
    let counts = rw c.in-Some.is at c.in_ok-more.ensures.counts in
    let one = rw c.in-Some.is at c.in_ok-more.ensures.within in
    record {
      counted = counted_on c.args.fronts _ c.loop-more.count c.in-Some.more c.loop-more.rest.now c.split_line.result.0.now (slice_split is_newline c.in-Some-after.after.now) c.loop-more.invariant.counted split counts;
      within = let so_far = c.loop-more.invariant.within in omega arith;
    }
