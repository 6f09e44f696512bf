-- This number of lines was not read, and the others are left.
use Rattle.std.proofs.Common.{◌≡◌, ◌+◌, ◌≤◌, length}
use Rattle.std.specs.List.{slice_split}
use Rattle.key_text.specs.Lines.{is_newline}
use Rattle.audit_lines.specs.Keyless.{more_unread, unread_alone}
use Rattle.audit_lines.specs.Outcome.{read_all}
use Rattle.audit_lines.proofs.survey.unread_alone.Given as goal

abbrev pub invariant-loop-more : goal.invariant-loop-more
invariant-loop-more l = record {
  counted : unread_alone (read_all l.fronts (slice_split is_newline l.fn.text)) ≡ more_unread l.count (unread_alone (read_all l.fronts (slice_split is_newline l.rest)));
  within : l.count + length l.rest ≤ length l.fn.text;
}

abbrev pub decreases-loop-more : goal.decreases-loop-more
decreases-loop-more l = length l.rest
