-- The lines so far were read, and the others are left.
use Rattle.std.proofs.Common.{◌+◌, ◌≤◌, length}
use Rattle.std.specs.List.{slice_split}
use Rattle.key_text.specs.Lines.{is_newline}
use Rattle.text_entries.proofs.ReadLines.{IsAt}
use Rattle.text_entries.proofs.reading.read_text.Given as goal

abbrev pub invariant-lines : goal.invariant-lines
invariant-lines g l = record {
  reached : IsAt l.fn.standing (slice_split is_newline l.fn.text) l.passed (slice_split is_newline l.rest) l.standing l.initial.revocations l.revocations;
  counted : l.passed + length l.rest ≤ length l.fn.text;
}

abbrev pub decreases-lines : goal.decreases-lines
decreases-lines g l = length l.rest
