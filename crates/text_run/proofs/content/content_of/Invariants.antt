-- The content of the lines so far, and of those that are left, is the content of the text.
use Rattle.std.proofs.Common.{◌≡◌, length}
use Rattle.std.specs.List.{slice_split}
use Rattle.key_text.specs.Lines.{is_newline}
use Rattle.text_run.specs.Content.{content_of, lines_content, more}
use Rattle.text_run.proofs.content.content_of.Given as goal

abbrev pub invariant-lines : goal.invariant-lines
invariant-lines l = content_of l.fn.text ≡ more l.said (lines_content (slice_split is_newline l.rest))

abbrev pub decreases-lines : goal.decreases-lines
decreases-lines l = length l.rest
