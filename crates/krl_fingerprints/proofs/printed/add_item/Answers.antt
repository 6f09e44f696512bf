use Rattle.krl_fingerprints.proofs.printed.add_item.Goals as goal

pub returns-in-Id : goal.returns-in-Id
returns-in-Id c = rw c.in-Id.is (rw c.fingerprint_of_authority.ensures at c.add_id.ensures.means)

pub returns-in-Key : goal.returns-in-Key
returns-in-Key c = rw c.in-Key.is (rw c.digest.ensures at c.add_key.ensures.means)

pub returns-in-Sha256 : goal.returns-in-Sha256
returns-in-Sha256 c = rw c.in-Sha256.is (rw c.digest-in-Sha256.ensures at c.add_sha256.ensures.means)
