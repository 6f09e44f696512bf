-- The reasons so far are written.
use Rattle.std.proofs.Common.{◌≡◌, ◌++◌, [], if◌then◌else◌, take}
use Rattle.std.specs.List.{flat_map}
use Rattle.json_lines.specs.Field.{values_tokens}
use Rattle.krl_entries.specs.Reasons.{every_reason, has_reason}
use Rattle.audit_text.specs.Objects.{reason_value}
use Rattle.audit_text.specs.Print.{spelled_of}
use Rattle.audit_text.proofs.reason_values.ReasonsOfValues.put_values.Given as goal

abbrev pub invariant-loop-reason : goal.invariant-loop-reason
invariant-loop-reason l =
    l.out ≡ l.initial.out ++ values_tokens (flat_map (λ reason. if has_reason l.self.2 reason then reason_value (spelled_of l.self.0) reason l.self.1.now.cert else []) (take l.reason-index every_reason))
