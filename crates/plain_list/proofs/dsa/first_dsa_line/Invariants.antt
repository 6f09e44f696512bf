-- The lines so far have no DSA, and the others are left.
use Rattle.std.proofs.Common.{◌+◌, ◌≤◌, length}
use Rattle.plain_list.specs.List.{lines_of}
use Rattle.plain_list.proofs.DsaLines.{IsAt}
use Rattle.plain_list.proofs.dsa.first_dsa_line.Given as goal

abbrev pub invariant-lines : goal.invariant-lines
invariant-lines l = record {
  reached : IsAt (lines_of l.fn.text) l.passed (lines_of l.rest);
  counted : l.passed + length l.rest ≤ length l.fn.text;
}

abbrev pub decreases-lines : goal.decreases-lines
decreases-lines l = length l.rest
