use Rattle.krl_entries.proofs.Sets.{set_has}
use Rattle.krl_entries.proofs.revocations.Revocations.has_item.Goals as goal

pub returns-in-Id : goal.returns-in-Id
returns-in-Id g c = rw c.in-Id.is c.has_id.ensures

pub returns-in-Key : goal.returns-in-Key
returns-in-Key g c = rw c.in-Key.is c.has_blob.ensures

pub returns-in-Sha1 : goal.returns-in-Sha1
returns-in-Sha1 g c =
    rw (c.in-Sha1.is, ← c.self.view_is) (set_has c.args.item.now c.self.inside.sha1s.keys c.contains.result (rw c.array_of.ensures at c.contains.ensures))

pub returns-in-Sha256 : goal.returns-in-Sha256
returns-in-Sha256 g c =
    rw (c.in-Sha256.is, ← c.self.view_is) (set_has c.args.item.now c.self.inside.sha256s.keys c.contains-in-Sha256.result (rw c.array_of-in-Sha256.ensures at c.contains-in-Sha256.ensures))
