-- The item of a line, by what reading the line and its blob gives.
use Rattle.std.proofs.Common.{◌≡◌, ℕ, true, false, List, Option, None, Some, Result, Ok, Err, refl, sym, ap, subst, ◌∙◌, inl, inr}
use Rattle.std.proofs.lemmas.Bool.{cases_Bool}
use Rattle.std.proofs.lemmas.Option.{same_Some}
use Rattle.ssh_wire.proofs.Steps.{ok_is}
use Rattle.ssh_key.specs.Key.{IsKey, PublicKey}
use Rattle.ssh_key.specs.KeyReading.{key_at}
use Rattle.ssh_key.specs.declared.fault.KeyFault.{KeyFault}
use Rattle.key_text.specs.KeyFile.{has_key}
use Rattle.key_text.specs.KeyLine.{IsKeyLine}
use Rattle.key_text.specs.LineReading.{KeyLine, line_at}
use Rattle.key_text.specs.declared.line_fault.LineFault.{LineFault}
use Rattle.krl_types.specs.Subject.{Subject}
use Rattle.ssh_cert.specs.SubjectReading.{IsSubject, subject_of}
use Rattle.ssh_cert.specs.declared.subject_fault.SubjectFault.{SubjectFault}
use Rattle.ssh_cert.proofs.Subjects.{plain_is_key}
use Rattle.run_output.specs.declared.answer.Answer.{Answer}
use Rattle.keyed_lines.specs.declared.key_cause.KeyCause.TheVariants.{Line}
use Rattle.run_faults.specs.declared.cause.Cause.TheVariants.{Key}
use Rattle.run_output.specs.Items.{SpellsKey}
use Rattle.run_faults.specs.Keys.{file_key_of, key_in, key_of_line, run_fault_at}
use Rattle.run_output.specs.Run.{Answered, Answering, Stopped, file_key_item, item_of, key_item, said, subject_item}

pub no_item_of : (answer : Answering) (name : List ℕ) (number : ℕ) (text : List ℕ) → has_key text ≡ false → item_of answer name number text ≡ None
unfolding item_of key_in
no_item_of answer name number text has = rw has refl

-- the item of a line, by what reading the line gives
line_read : (answer : Answering) (name : List ℕ) (number : ℕ) (text : List ℕ) (read : Result KeyLine LineFault) → has_key text ≡ true → line_at text ≡ read
    → item_of answer name number text ≡ Some (file_key_item answer (key_of_line name number read))
unfolding item_of key_in
line_read answer name number text read has is = rw has (ap (λ (r : Result KeyLine LineFault). Some (file_key_item answer (key_of_line name number r))) is)

pub faulty_line : (answer : Answering) (name : List ℕ) (number : ℕ) (text : List ℕ) (fault : LineFault) → has_key text ≡ true → line_at text ≡ Err fault
    → item_of answer name number text ≡ Some (Stopped (run_fault_at name number (Key (Line fault))))
faulty_line answer name number text fault has is_fault = line_read answer name number text (Err fault) has is_fault

pub line_item : (answer : Answering) (name : List ℕ) (number : ℕ) (text : List ℕ) (line : KeyLine) → has_key text ≡ true → line_at text ≡ Ok line
    → item_of answer name number text ≡ Some (file_key_item answer (Ok (file_key_of name (Some number) line)))
line_item answer name number text line has is_line = line_read answer name number text (Ok line) has is_line

-- an answer came from a key line
pub record FromLine (answer : Answering) (name : List ℕ) (number : ℕ) (text : List ℕ) (reply : Answer) : Type 0 where
  pub line : KeyLine
  pub asked : Subject
  pub key : PublicKey
  pub is_line : line_at text ≡ Ok line
  pub is_asked : subject_of line.blob ≡ Ok asked
  pub is_key : key_at asked.plain ≡ Ok key
  pub is_reply : Some reply ≡ answer.say name (Some number) line asked key

same_reply : (name other : List ℕ) (a : Option Answer) (b : Answer) → said name a ≡ Answered other b → Some b ≡ a
same_reply name other None b e = absurd cc
same_reply name other (Some a) b e = cc

from_line : (answer : Answering) (name : List ℕ) (number : ℕ) (text other : List ℕ) (reply : Answer) → file_key_item answer (key_of_line name number (line_at text)) ≡ Answered other reply → FromLine answer name number text reply
from_line answer name number text other reply item = of_line (line_at text) refl item
  where
    of_key : (line : KeyLine) (asked : Subject) (read : Result PublicKey KeyFault) → line_at text ≡ Ok line → subject_of line.blob ≡ Ok asked → key_at asked.plain ≡ read → key_item answer (file_key_of name (Some number) line) asked read ≡ Answered other reply → FromLine answer name number text reply
    of_key line asked (Ok key) is_line is_asked is_key e =
        record { line = line; asked = asked; key = key; is_line = is_line; is_asked = is_asked; is_key = is_key; is_reply = same_reply name other (answer.say name (Some number) line asked key) reply e }
    of_key line asked (Err fault) is_line is_asked is_key e = absurd cc

    of_blob : (line : KeyLine) (read : Result Subject SubjectFault) → line_at text ≡ Ok line → subject_of line.blob ≡ read → subject_item answer (file_key_of name (Some number) line) read ≡ Answered other reply → FromLine answer name number text reply
    of_blob line (Ok asked) is_line is_asked e = of_key line asked (key_at asked.plain) is_line is_asked refl e
    of_blob line (Err fault) is_line is_asked e = absurd cc

    of_line : (read : Result KeyLine LineFault) → line_at text ≡ read → file_key_item answer (key_of_line name number read) ≡ Answered other reply → FromLine answer name number text reply
    of_line (Ok line) is_line e = of_blob line (subject_of line.blob) is_line refl e
    of_line (Err fault) is_line e = absurd cc

pub answered_line : (answer : Answering) (name : List ℕ) (number : ℕ) (text other : List ℕ) (reply : Answer) → item_of answer name number text ≡ Some (Answered other reply) → FromLine answer name number text reply
answered_line answer name number text other reply item = elim (cases_Bool (has_key text)) [
  | inl has ↦ from_line answer name number text other reply (same_Some _ _ (sym (line_read answer name number text (line_at text) has refl) ∙ item))
  | inr none ↦ let e = sym (no_item_of answer name number text none) ∙ item in absurd cc
]

-- and so the line spells the key
pub spelled_line : (answer : Answering) (name : List ℕ) (number : ℕ) (text : List ℕ) (reply : Answer) → (from : FromLine answer name number text reply) → IsKeyLine text from.line.word from.line.blob from.line.comment → IsSubject from.line.blob from.asked
    → ((key : PublicKey) → IsKey from.asked.plain key → key_at from.asked.plain ≡ Ok key) → (line : KeyLine) × (asked : Subject) × (key : PublicKey) × SpellsKey text line asked key × (Some reply ≡ answer.say name (Some number) line asked key)
spelled_line answer name number text reply from is_line is_asked reads =
    let plain = plain_is_key from.line.blob from.asked is_asked in
    let same : plain.0 ≡ from.key = ok_is plain.0 from.key (key_at from.asked.plain) (reads plain.0 plain.1) from.is_key in
    (from.line, from.asked, from.key, record { is_line = is_line; is_asked = is_asked; is_key = subst (λ (key : PublicKey). IsKey from.asked.plain key) same plain.1 }, from.is_reply)
