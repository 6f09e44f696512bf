-- Why a list revokes the key of a query: the reasons as the bits of a number.
use Rattle.std.specs.Prelude.{◌≡◌, ◌↔◌, ◌<◌, ◌^◌, ℕ, ℤ, pos, List}
use Rattle.std.specs.Int.{bit_at}
use Rattle.ssh_cert.specs.SubjectReading.{HasSubject}
use Rattle.krl_types.specs.Subject.{Subject}
use Rattle.krl_types.specs.Entry.{Entry}
use Rattle.krl_entries.specs.Reasons.{IsReason, position_of}
use Rattle.krl_entries.specs.declared.reasons.Reason.{Reason}
use Rattle.krl_c.specs.declared.asked.BlobFault.{BlobFault}
use Rattle.krl_c.specs.Answer.{AnswersBy}
use Rattle.krl_c.specs.Asked.{IsQuery, IsRefusedBlob}
use Rattle.krl_c.specs.Number.{blob_number, no_memory}

-- Each bit says whether the entries revoke the key of the query for its reason. There are no other
-- bits.
pub record HasReasons (entries : List Entry) (asked : Subject) (bits : ℕ) : Type 0 where
  pub reasons_are : (reason : Reason)
      → (bit_at bits (position_of reason) ≡ 1 ↔ IsReason entries asked reason)
  pub within : bits < 2 ^ 10

-- The reasons of entries for a blob.
pub data ExplainsBlob (entries : List Entry) (blob : List ℕ) (number : ℤ) : Type 0 where
  explained : (asked : Subject) (bits : ℕ) → IsQuery blob asked → HasReasons entries asked bits
      → number ≡ pos bits → ExplainsBlob entries blob number
  no_blob : (fault : BlobFault) → IsRefusedBlob blob fault → number ≡ blob_number fault
      → ExplainsBlob entries blob number
  ran_out : HasSubject blob → number ≡ no_memory → ExplainsBlob entries blob number

-- The reasons of a list for a blob.
abbrev pub Explains : (list blob : List ℕ) → ℤ → Type 0
Explains list blob = AnswersBy (HasSubject blob) (λ entries. ExplainsBlob entries blob) list
