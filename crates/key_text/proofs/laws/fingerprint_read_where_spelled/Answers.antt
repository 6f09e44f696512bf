use Rattle.key_text.proofs.FingerprintLaws.{fingerprint_again, fingerprint_found}
use Rattle.key_text.proofs.laws.fingerprint_read_where_spelled.Goals as goal

pub returns : goal.returns
returns c = λ text digest fits. (fingerprint_found text digest fits, fingerprint_again text digest)
