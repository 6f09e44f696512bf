-- The reasons so far are appended.
use Rattle.std.proofs.Common.{◌≡◌, ◌++◌, [], if◌then◌else◌, take}
use Rattle.std.specs.List.{flat_map}
use Rattle.krl_entries.specs.Reasons.{every_reason, has_reason}
use Rattle.audit_text.specs.Print.{spelled_of}
use Rattle.audit_text.specs.Text.{reason_words}
use Rattle.audit_text.proofs.reasons.push_parts.Given as goal

abbrev pub invariant-loop-reason : goal.invariant-loop-reason
invariant-loop-reason l =
    l.text.items ≡ l.initial.text.items ++ flat_map (λ reason. if has_reason l.reasons reason then reason_words (spelled_of l.spelling) reason l.subject.cert else []) (take l.reason-index every_reason)
