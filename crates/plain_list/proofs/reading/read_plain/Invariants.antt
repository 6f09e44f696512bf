-- The lines so far were read, and the others are left.
use Rattle.std.proofs.Common.{◌+◌, ◌≤◌, length}
use Rattle.plain_list.specs.List.{lines_of}
use Rattle.plain_list.proofs.LinesRead.{IsAt}
use Rattle.plain_list.proofs.reading.read_plain.Given as goal

abbrev pub invariant-lines : goal.invariant-lines
invariant-lines g l = record {
  reached : IsAt (lines_of l.fn.text) l.passed (lines_of l.rest) l.revoked;
  counted : l.passed + length l.rest ≤ length l.fn.text;
}

abbrev pub decreases-lines : goal.decreases-lines
decreases-lines g l = length l.rest
