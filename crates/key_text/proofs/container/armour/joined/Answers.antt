-- Another line is joined.
use Rattle.std.proofs.Common.{sym, ◌∙◌}
use Rattle.key_text.specs.Blanks.{before_ending}
use Rattle.key_text.proofs.ContainerReads.{body_grows, line_goes_on}
use Rattle.key_text.proofs.container.armour.joined.Goals as goal

pub loop-after-preserved : goal.loop-after-preserved
loop-after-preserved c =
    let split = rw c.in-Some.is at c.split_line.ensures.lines in
    let other = rw c.before_ending-line.ensures at (sym c.is_end.ensures ∙ c.if-is_end.false) in
    let goes_on = line_goes_on c.loop-after.rest.now c.split_line.result.0.now c.in-Some.after.now split other in
    let joined = rw goes_on at c.loop-after.invariant in
    rw (c.in_ok-extend_from_slice.ensures.items, c.before_ending-line.ensures) (joined ∙ body_grows c.loop-after.body.items (before_ending c.split_line.result.0.now) _)
