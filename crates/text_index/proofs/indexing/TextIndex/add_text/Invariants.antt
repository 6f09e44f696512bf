-- The lines so far were added, and the others are left.
use Rattle.std.proofs.Common.{◌+◌, ◌≤◌, length}
use Rattle.std.specs.List.{slice_split}
use Rattle.key_text.specs.Lines.{is_newline}
use Rattle.text_index.proofs.Lines.{IsAt}
use Rattle.text_index.proofs.indexing.TextIndex.add_text.Given as goal

abbrev pub invariant-lines : goal.invariant-lines
invariant-lines l = record {
  reached : IsAt l.fn.standing l.file l.text l.passed (slice_split is_newline l.rest) l.standing l.fn.self l.self;
  counted : l.passed + length l.rest ≤ length l.text;
}

abbrev pub decreases-lines : goal.decreases-lines
decreases-lines l = length l.rest
