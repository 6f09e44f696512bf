-- The bits of reasons.
use Rattle.krl_c.proofs.Common.{◌<◌, ◌↔◌, ◌≡◌, blob_number, BlobFault, Entry, IsReportedRefusal, IsTrue, List}
use Rattle.krl_c.proofs.Common.{ℕ, ℤ}
use Rattle.std.specs.Int.{bit_at}
use Rattle.std.proofs.lemmas.Bool.Decides.{Decides-eqb}
use Rattle.std.proofs.Math.Logic.Iff as Iff
use Rattle.krl_types.specs.Subject.{Subject}
use Rattle.krl_entries.specs.Reasons.{has_reason, IsReason, position_of}
use Rattle.krl_entries.specs.declared.reasons.Reason.{Reason}
use Rattle.krl_entries.specs.declared.reasons.Reasons.{Reasons}
use Rattle.krl_c.specs.Why.{ExplainsBlob, HasReasons, no_blob, ran_out}
use Rattle.ssh_cert.specs.declared.subject_fault.SubjectFault.TheVariants as subjects
use Rattle.krl_c.specs.declared.asked.BlobFault.TheVariants as blobs

-- the bits are the reasons
pub has_reasons : (entries : List Entry) (asked : Subject) (all : Reasons) → all.bits < 1024 → ((reason : Reason) → IsTrue (has_reason all reason) ↔ IsReason entries asked reason) → HasReasons entries asked all.bits
has_reasons entries asked all few are = record {
  reasons_are = λ reason. Iff.trans (Iff.symm (Decides-eqb (bit_at all.bits (position_of reason)) 1)) (are reason);
  within = few;
}

-- the number of a blob's fault is returned
pub unexplained : (entries : List Entry) (blob : List ℕ) (fault : BlobFault) (number : ℤ) → IsReportedRefusal blob fault → number ≡ blob_number fault → ExplainsBlob entries blob number
unexplained entries blob (blobs.Subject (subjects.Key why)) number reported e = no_blob (blobs.Subject (subjects.Key why)) reported e
unexplained entries blob (blobs.Subject (subjects.Cert why)) number reported e = no_blob (blobs.Subject (subjects.Cert why)) reported e
unexplained entries blob (blobs.Subject subjects.NoMemory) number reported e = ran_out reported e
unexplained entries blob blobs.KeyId number reported e = no_blob blobs.KeyId reported e
