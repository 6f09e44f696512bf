-- The lines so far were read, and the others are left.
use Rattle.std.proofs.Common.{◌+◌, ◌-◌, ◌≤◌, length}
use Rattle.std.specs.List.{slice_split}
use Rattle.key_text.specs.Lines.{is_newline}
use Rattle.krl_spec.specs.Under.{authority_under}
use Rattle.krl_spec.specs.Stored.{GrowsUnder}
use Rattle.krl_spec.specs.Under.{bytes_under}
use Rattle.krl_spec.proofs.ReadLines.{IsAt}
use Rattle.krl_spec.proofs.lines.read_spec.Given as goal

abbrev pub invariant-lines : goal.invariant-lines
invariant-lines g l = record {
  reached : IsAt (authority_under l.under) (slice_split is_newline l.fn.text) l.passed (slice_split is_newline l.rest) l.initial.revocations l.revocations;
  stored : GrowsUnder (bytes_under (authority_under l.under)) (length l.fn.text - length l.rest) l.initial.revocations l.revocations;
  counted : l.passed + length l.rest ≤ length l.fn.text;
}

abbrev pub decreases-lines : goal.decreases-lines
decreases-lines g l = length l.rest
