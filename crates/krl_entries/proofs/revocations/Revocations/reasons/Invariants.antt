use Rattle.krl_entries.proofs.Common.{◌≡◌, ◌≤◌, bits_in, drop, every_reason, holds_name, map}
use Rattle.krl_entries.proofs.Common.{name_asked, passes}
use Rattle.krl_entries.proofs.revocations.Revocations.reasons.Given as goal

-- the bits of the last reasons so far
abbrev pub invariant-loop-left : goal.invariant-loop-left
invariant-loop-left g l = record {
  within : l.left ≤ 10;
  bits : l.bits ≡ bits_in (map (λ reason. passes (holds_name l.self) (name_asked reason l.subject)) (drop l.left every_reason));
}

abbrev pub decreases-loop-left : goal.decreases-loop-left
decreases-loop-left g l = l.left
