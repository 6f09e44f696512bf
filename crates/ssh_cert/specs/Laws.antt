-- Definitions for the laws about certificates.
use Rattle.std.specs.Prelude.{◌≡◌, ℕ, ◌<◌, List, ◌++◌, length}
use Rattle.ssh_cert.specs.declared.fault.CertFault.{CertFault}
use Rattle.ssh_cert.specs.declared.fault.CertFault.TheVariants.{Wire, Key}
use Rattle.ssh_cert.specs.FirstFault.{IsFirstCertFault}

-- the front is a proper prefix of the text
pub record IsCut (front text : List ℕ) : Type 0 where
  pub missing : List ℕ
  pub parts : text ≡ front ++ missing
  pub some : 0 < length missing

-- a field is truncated: a public field of the key, or another
abbrev pub IsCutFault : CertFault → Type 0
IsCutFault Wire = Unit {0}
IsCutFault (Key fault) = Unit {0}
IsCutFault fault = ⊥

-- the first fault of the bytes is that a field is truncated
pub record HasCutFault (bytes : List ℕ) : Type 0 where
  pub fault : CertFault
  pub first : IsFirstCertFault bytes fault
  pub cut : IsCutFault fault
