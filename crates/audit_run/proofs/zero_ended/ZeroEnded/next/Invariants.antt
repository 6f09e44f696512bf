-- The bytes that came are the front of a name.
use Rattle.std.proofs.Common.{◌≡◌, ◌+◌, List, ℕ, [], take}
use Rattle.audit_run.specs.ZeroEnded.{Gives}
use Rattle.audit_run.proofs.zero_ended.ZeroEnded.next.Given as goal

abbrev pub invariant-bytes : goal.invariant-bytes
invariant-bytes g l =
    (front : List ℕ) × (Gives l.initial.self l.self [] front × (l.name.items ≡ take (l.most + 1) front))

abbrev pub decreases-bytes : goal.decreases-bytes
decreases-bytes g l = l.self.room
