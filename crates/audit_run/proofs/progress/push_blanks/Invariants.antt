-- The blanks so far are appended.
use Rattle.std.proofs.Common.{◌≡◌, ◌-◌, ◌≤◌, ◌++◌, replicate}
use Rattle.audit_run.proofs.progress.push_blanks.Given as goal

abbrev pub invariant-blanks : goal.invariant-blanks
invariant-blanks l = (l.pushed ≤ l.count) × (l.text.items ≡ l.initial.text.items ++ replicate l.pushed 32)

abbrev pub decreases-blanks : goal.decreases-blanks
decreases-blanks l = l.count - l.pushed
