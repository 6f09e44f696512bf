use Rattle.krl_entries.proofs.Common.{arith, false≢true, sha256}
use Rattle.krl_entries.proofs.Sets.{set_has}
use Rattle.krl_entries.proofs.revocations.Revocations.has_sha256.Goals as goal

pub returns-then-is_empty : goal.returns-then-is_empty
returns-then-is_empty g c =
    rw (← c.self.view_is) (λ h. absurd (false≢true h), λ h. absurd (omega (arith, h.1, c.is_empty.ensures.0 c.if-is_empty.true)))

pub returns : goal.returns
returns g c =
    rw (← c.self.view_is) (set_has (sha256 c.args.blob.now) c.self.inside.sha256s.keys c.contains.result (rw c.digest.ensures at c.contains.ensures))
