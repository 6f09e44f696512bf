use Rattle.key_text.proofs.FingerprintLaws.{fingerprint_fault_met, fingerprint_refused}
use Rattle.key_text.proofs.laws.fingerprint_refused_by_first_fault.Goals as goal

pub returns : goal.returns
returns c = λ text fault fits. (fingerprint_refused text fault fits, fingerprint_fault_met text fault fits)
