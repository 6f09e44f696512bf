-- The meaning of the answers, by the list that was read and the query.
use Rattle.krl_c.proofs.Common.{◌∙◌, ◌≡◌, answered, Answers, AnswersBlob, AnswersBy}
use Rattle.krl_c.proofs.Common.{AnswersLine, AnswersOfLine, arith, entries_of, Entry, false}
use Rattle.krl_c.proofs.Common.{HasIncomparable, Incomparable, inl, inr, IsCompared, IsIncomparable, IsListOf, IsRefusal}
use Rattle.krl_c.proofs.Common.{IsReportedRefusal, line_number, line_ran_out, LineFault, List}
use Rattle.krl_c.proofs.Common.{list_ran_out, no_blob, no_line, no_list, of_key, of_z, Option}
use Rattle.krl_c.proofs.Common.{other_names, None, Some, ran_out, refl, refusal_number, SFits}
use Rattle.krl_c.proofs.Common.{blob_number, BlobFault, subst, to_z, to_z-of_z, w32, ℕ, ℤ}
use Rattle.key_text.specs.KeyLine.{base64, IsKeyLine}
use Rattle.krl_types.specs.declared.krl_fault.KrlFault.{KrlFault}
use Rattle.krl_format.specs.declared.header.Header.{Header}
use Rattle.krl_entries.specs.Revocations.{Revocations}
use Rattle.krl_core.specs.Reading.{IsListAs}
use Rattle.krl_format.specs.Faults.{failed_read, first}
use Rattle.krl_c.specs.declared.refusal.Refusal.{Refusal}
use Rattle.ssh_cert.specs.declared.subject_fault.SubjectFault.TheVariants as subjects
use Rattle.krl_c.specs.declared.asked.BlobFault.TheVariants as blobs
use Rattle.key_text.specs.LineFaults.{IsReportedFault as IsReportedLineFault}
use Rattle.key_text.specs.declared.line_fault.LineFault.TheVariants as lines
use Rattle.krl_format.specs.Faults.{Says as ListSays}
use Rattle.krl_format.specs.Faults.{ran_out as runs_out}
use Rattle.krl_c.specs.declared.refusal.Refusal.TheVariants as refusals

-- an answer does not change when it is passed to C
pub same : (number : ℤ) → SFits w32 number → to_z w32 (of_z w32 number) ≡ number
same number fits = to_z-of_z w32 number fits

-- the number of a blob's fault is returned
pub refused : (entries : List Entry) (blob : List ℕ) (fault : BlobFault) (number : ℤ)
    → IsReportedRefusal blob fault → number ≡ blob_number fault → AnswersBlob entries blob number
refused entries blob (blobs.Subject (subjects.Key why)) number reported e = no_blob (blobs.Subject (subjects.Key why)) reported e
refused entries blob (blobs.Subject (subjects.Cert why)) number reported e = no_blob (blobs.Subject (subjects.Cert why)) reported e
refused entries blob (blobs.Subject subjects.NoMemory) number reported e = ran_out reported e
refused entries blob blobs.KeyId number reported e = no_blob blobs.KeyId reported e

-- the number of a line's fault is returned
pub line_refused : (entries : List Entry) (text : List ℕ) (fault : LineFault) (number : ℤ)
    → IsReportedLineFault text fault → number ≡ line_number fault → AnswersLine entries text number
line_refused entries text lines.NoKey number reported e = no_line lines.NoKey reported e
line_refused entries text lines.Base64 number reported e = no_line lines.Base64 reported e
line_refused entries text lines.WordDiffers number reported e = no_line lines.WordDiffers reported e
line_refused entries text lines.NoMemory number reported e = line_ran_out reported e

-- the list that was read has the entries of its sections
pub of_list : {Holds : List ℕ → Revocations → List Entry → Type 0} (text : List ℕ) (header : Header) (contents : Revocations)
    (list : IsListAs Holds text header contents) → IsListOf text (entries_of list.sections)
of_list text header contents list = record {
  header = header;
  sections = list.sections;
  spelled = list.spelled;
  within = list.within;
  entries_are = refl;
}

-- a list's fault is its first one, unless an allocation failed, if its reader did not fail
pub first_of : {IsAsked : Type 0} (text : List ℕ) (fault : KrlFault) (left : Option (List ℕ))
    → ListSays fault text false left → IsRefusal IsAsked text (refusals.Fault fault)
first_of text fault left (runs_out is lacks works) = inl (is, inr lacks)
first_of text fault left (failed_read is after) = let wrong : ⊥ = grind (arith, after.failed_is) in absurd wrong
first_of text fault left (first is works) = inr is

-- a list that gives no answer has the number of the reason
pub list_refused : {IsAsked Also : Type 0} {Told : List Entry → ℤ → Type 0} (text : List ℕ) (refusal : Refusal) (number : ℤ) → (IsAsked → Also) → IsRefusal IsAsked text refusal
    → number ≡ refusal_number refusal → AnswersBy Also Told text number
list_refused text (refusals.Fault fault) number also (inl (is, inl asked)) e = list_ran_out (inl (also asked)) (e ∙ (rw is refl))
list_refused text (refusals.Fault fault) number also (inl (is, inr lacks)) e = list_ran_out (inr lacks) (e ∙ (rw is refl))
list_refused text (refusals.Fault fault) number also (inr is) e = no_list fault is e
list_refused text (refusals.Incomparable why) number also odd e = other_names why odd e

-- by its authorities and its key IDs
pub compared : (text : List ℕ) (entries : List Entry) (is : IsListOf text entries) (found : Option Incomparable) → IsIncomparable is.sections found → found ≡ None → IsCompared text entries
compared text entries is found names none = record { is = is; names = subst (IsIncomparable is.sections) none names }

pub not_compared : (text : List ℕ) (entries : List Entry) (is : IsListOf text entries) (found : Option Incomparable) (why : Incomparable) → IsIncomparable is.sections found → found ≡ Some why → HasIncomparable text why
not_compared text entries is found why names some = record { entries = entries; is = is; names = subst (IsIncomparable is.sections) some names }

-- the answer of a list for the key of a line is its answer for that key's blob
pub of_its_blob : (list text word blob comment : List ℕ) (number : ℤ) → IsKeyLine text word blob comment
    → Answers list blob number → AnswersOfLine list text number
of_its_blob list text word blob comment number line (answered entries is says) = answered entries is (of_key word blob comment line says)
of_its_blob list text word blob comment number line (other_names why odd is) = other_names why odd is
of_its_blob list text word blob comment number line (no_list fault is_first is) = no_list fault is_first is
of_its_blob list text word blob comment number line (list_ran_out (inl asked) is) = list_ran_out (inl (record { word = word; encoded = base64 blob; comment = comment; words = line.words })) is
of_its_blob list text word blob comment number line (list_ran_out (inr lacks) is) = list_ran_out (inr lacks) is
