-- The answers of a run over certificates.
use Rattle.std.proofs.Common.{◌≡◌, ℕ, List, Some, Result, Ok, Err, refl}
use Rattle.std.specs.Result.{result_ok}
use Rattle.std.proofs.lemmas.Option.{same_Some}
use Rattle.ssh_cert.specs.Cert.{Cert}
use Rattle.ssh_cert.specs.declared.fault.CertFault.{CertFault}
use Rattle.key_text.specs.declared.hash.Hash.{Hash}
use Rattle.key_listing.specs.Listing.{certificate_answer, listed_certificate}
use Rattle.run_output.specs.declared.answer.Answer.{Answer}

-- each answer of a run over certificates lists a certificate
pub certificate_answered : (hash : Hash) (moment : ℕ) (name : List ℕ) (number : ℕ) (reply : Answer) (read : Result Cert CertFault) → Some reply ≡ certificate_answer hash moment name (Some number) (result_ok read)
    → (certificate : Cert) × (read ≡ Ok certificate) × (reply ≡ listed_certificate hash moment name number certificate)
certificate_answered hash moment name number reply (Ok certificate) e = (certificate, refl, same_Some reply (listed_certificate hash moment name number certificate) e)
certificate_answered hash moment name number reply (Err fault) e = absurd cc
