-- The subject of the key of a line, and why a line has none.
use Rattle.std.specs.Prelude.{◌≡◌, ℕ, List, Result}
use Rattle.ssh_wire.specs.Reading.{◌>>=◌, in_fault}
use Rattle.key_text.specs.KeyLine.{IsKeyLine}
use Rattle.key_text.specs.LineFaults.{IsFirstLineFault}
use Rattle.key_text.specs.LineReading.{line_at}
use Rattle.krl_types.specs.Subject.{Subject}
use Rattle.ssh_cert.specs.SubjectReading.{IsSubject, IsSubjectFault, subject_of}
use Rattle.ssh_cert.specs.declared.subject_fault.SubjectFault.{SubjectFault}
use Rattle.keyed_lines.specs.declared.key_cause.KeyCause.{KeyCause}
use Rattle.keyed_lines.specs.declared.key_cause.KeyCause.TheVariants as causes

-- the subject of the key of a key line
unfoldable pub subject_in : List ℕ → Result Subject KeyCause
subject_in text = do
  content ← in_fault causes.Line (line_at text)
  in_fault causes.Subject (subject_of content.blob)

-- a key line with the blob of a plain key or of a certificate, which has this subject
pub record IsSubjectLine (text : List ℕ) (asked : Subject) : Type 0 where
  pub word : List ℕ
  pub blob : List ℕ
  pub comment : List ℕ
  pub line : IsKeyLine text word blob comment
  pub asks : IsSubject blob asked

-- a key line whose blob has this first fault
pub record HasSubjectFault (text : List ℕ) (fault : SubjectFault) : Type 0 where
  pub word : List ℕ
  pub blob : List ℕ
  pub comment : List ℕ
  pub line : IsKeyLine text word blob comment
  pub is : IsSubjectFault blob fault

-- why a text is not a key line with a subject: its first fault as a key line, or that of its blob
abbrev pub IsKeyFault : List ℕ → KeyCause → Type 0
IsKeyFault text (causes.Line fault) = IsFirstLineFault text fault
IsKeyFault text (causes.Subject fault) = HasSubjectFault text fault
