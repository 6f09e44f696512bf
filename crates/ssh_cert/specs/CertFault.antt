-- The numbers and the printed names of the faults of a certificate.
use Rattle.std.specs.Prelude.{ℕ, List, ◌++◌, codes}
use Rattle.ssh_key.specs.KeyFault.{key_fault_text}
use Rattle.ssh_cert.specs.declared.fault.CertFault.{CertFault}
use Rattle.ssh_cert.specs.declared.fault.CertFault.TheVariants.{Wire, UnknownType, Key, CertType}
use Rattle.ssh_cert.specs.declared.fault.CertFault.TheVariants.{Options, Principals, Authority}
use Rattle.ssh_cert.specs.declared.fault.CertFault.TheVariants.{Signature, Trailing}

abbrev pub cert_fault_number : CertFault → ℕ
cert_fault_number Wire = 1
cert_fault_number UnknownType = 2
cert_fault_number (Key fault) = 3
cert_fault_number CertType = 4
cert_fault_number Options = 5
cert_fault_number Principals = 6
cert_fault_number (Authority fault) = 7
cert_fault_number Signature = 8
cert_fault_number Trailing = 9

abbrev pub cert_fault_text : CertFault → List ℕ
cert_fault_text Wire = codes "cert 1 Wire"
cert_fault_text UnknownType = codes "cert 2 UnknownType"
cert_fault_text (Key fault) = codes "cert 3 Key, " ++ key_fault_text fault
cert_fault_text CertType = codes "cert 4 CertType"
cert_fault_text Options = codes "cert 5 Options"
cert_fault_text Principals = codes "cert 6 Principals"
cert_fault_text (Authority fault) = codes "cert 7 Authority, " ++ key_fault_text fault
cert_fault_text Signature = codes "cert 8 Signature"
cert_fault_text Trailing = codes "cert 9 Trailing"
