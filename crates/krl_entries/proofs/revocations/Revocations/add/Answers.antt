use Rattle.krl_entries.proofs.revocations.Revocations.add.Goals as goal

pub returns-in-Key-clause-means : goal.returns-in-Key-clause-means
returns-in-Key-clause-means g c = rw (c.in-Item.is, c.in-Key.is) c.add_key.ensures.means

pub returns-in-Sha1-clause-means : goal.returns-in-Sha1-clause-means
returns-in-Sha1-clause-means g c = rw (c.in-Item.is, c.in-Sha1.is, ← c.array_of.ensures) c.add_sha1.ensures.means

pub returns-in-Sha256-clause-means : goal.returns-in-Sha256-clause-means
returns-in-Sha256-clause-means g c = rw (c.in-Item.is, c.in-Sha256.is, ← c.array_of-in-Sha256.ensures) c.add_sha256.ensures.means
