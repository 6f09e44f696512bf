use Rattle.key_text.specs.FingerprintReading.{fingerprint_at}
use Rattle.key_text.proofs.FingerprintLaws.{fingerprint_again, fingerprint_fault_met}
use Rattle.ssh_wire.proofs.Steps.{err_is, ok_or_err}
use Rattle.key_text.proofs.laws.one_fingerprint_fault.Goals as goal

pub returns-clause-one : goal.returns-clause-one
returns-clause-one c = λ text a b fits p q. err_is a b (fingerprint_at text) (fingerprint_fault_met text a fits p) (fingerprint_fault_met text b fits q)

pub returns-clause-none : goal.returns-clause-none
returns-clause-none c = λ text digest fault fits is not. ok_or_err digest fault (fingerprint_at text) (fingerprint_again text digest is) (fingerprint_fault_met text fault fits not)
