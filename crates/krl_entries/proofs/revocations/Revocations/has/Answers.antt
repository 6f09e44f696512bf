use Rattle.krl_entries.proofs.Common.{IdOf, KeyOf, SerialOf, sha1, Sha1Of, sha256, Sha256Of}
use Rattle.krl_entries.proofs.NameTests.{name_is}
use Rattle.krl_entries.proofs.revocations.Revocations.has.Goals as goal

pub returns-in-Serial : goal.returns-in-Serial
returns-in-Serial g c = rw c.in-Serial.is (name_is c.args.self.now (SerialOf c.in-Serial.authority.now c.in-Serial.serial) c.has_serial.result c.has_serial.ensures)

pub returns-in-Id : goal.returns-in-Id
returns-in-Id g c = rw c.in-Id.is (name_is c.args.self.now (IdOf c.in-Id.authority.now c.in-Id.id.now) c.has_id.result c.has_id.ensures)

pub returns-in-Key : goal.returns-in-Key
returns-in-Key g c = rw c.in-Key.is (name_is c.args.self.now (KeyOf c.in-Key.blob.now) c.has_blob.result c.has_blob.ensures)

pub returns-in-Sha1 : goal.returns-in-Sha1
returns-in-Sha1 g c = rw c.in-Sha1.is (name_is c.args.self.now (Sha1Of (sha1 c.in-Sha1.blob.now)) c.has_sha1.result c.has_sha1.ensures)

pub returns-in-Sha256 : goal.returns-in-Sha256
returns-in-Sha256 g c = rw c.in-Sha256.is (name_is c.args.self.now (Sha256Of (sha256 c.in-Sha256.blob.now)) c.has_sha256.result c.has_sha256.ensures)
