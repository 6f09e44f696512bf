-- No line so far ends the private key.
use Rattle.std.proofs.Common.{◌≡◌, ◌+◌, ◌≤◌, length}
use Rattle.std.specs.List.{slice_split}
use Rattle.key_text.specs.Lines.{is_newline}
use Rattle.audit_lines.specs.Outcome.{placed_behind}
use Rattle.audit_lines.specs.declared.front.Fronts.{Fronts}
use Rattle.krl_audit.proofs.auditor.behind_private.Given as goal

abbrev pub invariant-loop-rest_of_text : goal.invariant-loop-rest_of_text
invariant-loop-rest_of_text l = record {
  behind : (kind : Fronts) → placed_behind kind 1 (slice_split is_newline l.fn.text) ≡ placed_behind kind (l.passed + 1) (slice_split is_newline l.rest);
  within : l.passed + length l.rest ≤ length l.fn.text;
}

abbrev pub decreases-loop-rest_of_text : goal.decreases-loop-rest_of_text
decreases-loop-rest_of_text l = length l.rest
