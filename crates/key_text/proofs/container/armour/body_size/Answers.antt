-- Another line is counted.
use Rattle.std.proofs.Common.{sym, ◌∙◌}
use Rattle.key_text.specs.Blanks.{before_ending}
use Rattle.key_text.proofs.ContainerReads.{counted_within, line_goes_on, size_grows}
use Rattle.key_text.proofs.container.armour.body_size.Goals as goal

pub loop-after-preserved : goal.loop-after-preserved
loop-after-preserved c =
    let split = rw c.in-Some.is at c.split_line.ensures.lines in
    let shorter = rw c.in-Some.is at c.split_line.ensures.shorter in
    let other = rw c.before_ending-line.ensures at (sym c.is_end.ensures ∙ c.if-is_end.false) in
    let goes_on = line_goes_on c.loop-after.rest.now c.split_line.result.0.now c.in-Some.after.now split other in
    let counted = rw goes_on at c.loop-after.invariant.counted in
    record {
      counted = rw c.before_ending-line.ensures (counted ∙ size_grows (before_ending c.split_line.result.0.now) c.loop-after.size _);
      within = rw c.before_ending-line.ensures (counted_within c.loop-after.size c.split_line.result.0.now _ _ _ c.loop-after.invariant.within shorter);
    }
