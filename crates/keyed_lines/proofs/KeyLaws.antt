-- Keys are read exactly where key lines spell them, and otherwise the first fault is reported.
use Rattle.std.proofs.Common.{◌≡◌, ◌↔◌, ℕ, List, Result, Ok, Err, refl, subst, sym, inl, inr}
use Rattle.ssh_wire.specs.Reading.{in_fault}
use Rattle.ssh_wire.specs.Wire.{IsBytes}
use Rattle.ssh_wire.proofs.Steps.{bind_err, bind_ok, in_fault_err, in_fault_ok}
use Rattle.key_text.specs.KeyLine.{IsKeyLine}
use Rattle.key_text.specs.LineFaults.{IsFirstLineFault}
use Rattle.key_text.specs.LineReading.{KeyLine, content, line_at}
use Rattle.key_text.specs.declared.line_fault.LineFault.{LineFault}
use Rattle.krl_types.specs.Subject.{Subject}
use Rattle.ssh_cert.specs.SubjectReading.{IsSubject, IsSubjectFault, subject_of}
use Rattle.ssh_cert.specs.declared.subject_fault.SubjectFault.{SubjectFault}
use Rattle.keyed_lines.specs.Keys.{HasSubjectFault, IsKeyFault, IsSubjectLine, subject_in}
use Rattle.keyed_lines.specs.declared.key_cause.KeyCause.{KeyCause}
use Rattle.keyed_lines.specs.declared.key_cause.KeyCause.TheVariants as causes

-- the laws of key lines and of subjects
pub record KeyLaws : Type 0 where
  pub line_read : (text word blob comment : List ℕ) → IsKeyLine text word blob comment
      → line_at text ≡ Ok (content word blob comment)
  pub line_found : (text : List ℕ) (line : KeyLine) → IsBytes text → line_at text ≡ Ok line
      → IsKeyLine text line.word line.blob line.comment
  pub line_refused : (text : List ℕ) (fault : LineFault) → IsBytes text
      → (line_at text ≡ Err fault) ↔ IsFirstLineFault text fault
  pub asked : (blob : List ℕ) (asked : Subject) → IsBytes blob
      → (subject_of blob ≡ Ok asked) ↔ IsSubject blob asked
  pub not_asked : (blob : List ℕ) (fault : SubjectFault) → IsBytes blob
      → (subject_of blob ≡ Err fault) ↔ IsSubjectFault blob fault

-- the subject of the blob of a line
abbrev asked_in : KeyLine → Result Subject KeyCause
asked_in line = in_fault causes.Subject (subject_of line.blob)

pub subject_found : KeyLaws → (text : List ℕ) (asked : Subject) → IsBytes text → subject_in text ≡ Ok asked → IsSubjectLine text asked
unfolding subject_in
subject_found laws text asked fits e =
    let read = bind_ok (in_fault causes.Line (line_at text)) asked_in asked e in
    let is_line = laws.line_found text read.0 fits (in_fault_ok causes.Line (line_at text) read.0 read.1) in
    record {
      word = read.0.word;
      blob = read.0.blob;
      comment = read.0.comment;
      line = is_line;
      asks = (laws.asked read.0.blob asked is_line.bytes).0 (in_fault_ok causes.Subject (subject_of read.0.blob) asked read.2);
    }

pub subject_again : KeyLaws → (text : List ℕ) (asked : Subject) → IsSubjectLine text asked → subject_in text ≡ Ok asked
unfolding subject_in
subject_again laws text asked is =
    rw (laws.line_read text is.word is.blob is.comment is.line, (laws.asked is.blob asked is.line.bytes).1 is.asks) refl

pub subject_refused : KeyLaws → (text : List ℕ) (cause : KeyCause) → IsBytes text → subject_in text ≡ Err cause → IsKeyFault text cause
unfolding subject_in
subject_refused laws text cause fits e = elim (bind_err (in_fault causes.Line (line_at text)) asked_in cause e) [
  | inl refused ↦
      let why = in_fault_err causes.Line (line_at text) cause refused in
      subst (IsKeyFault text) (sym why.2) ((laws.line_refused text why.0 fits).0 why.1)
  | inr read ↦
      let is_line = laws.line_found text read.0 fits (in_fault_ok causes.Line (line_at text) read.0 read.1) in
      let why = in_fault_err causes.Subject (subject_of read.0.blob) cause read.2 in
      let has : HasSubjectFault text why.0 = record {
        word = read.0.word;
        blob = read.0.blob;
        comment = read.0.comment;
        line = is_line;
        is = (laws.not_asked read.0.blob why.0 is_line.bytes).0 why.1;
      } in
      subst (IsKeyFault text) (sym why.2) has
]

pub fault_met : KeyLaws → (text : List ℕ) (cause : KeyCause) → IsBytes text → IsKeyFault text cause → subject_in text ≡ Err cause
unfolding subject_in
fault_met laws text (causes.Line fault) fits first = rw ((laws.line_refused text fault fits).1 first) refl
fault_met laws text (causes.Subject fault) fits has =
    rw (laws.line_read text has.word has.blob has.comment has.line, (laws.not_asked has.blob fault has.line.bytes).1 has.is) refl
