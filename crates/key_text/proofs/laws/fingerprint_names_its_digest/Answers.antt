use Rattle.key_text.proofs.FingerprintLaws.{printed_is_fingerprint}
use Rattle.key_text.proofs.laws.fingerprint_names_its_digest.Goals as goal

pub returns : goal.returns
returns c = printed_is_fingerprint
