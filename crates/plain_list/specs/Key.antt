-- The key that a line of a plain list revokes, read from left to right.
use Rattle.std.specs.Prelude.{◌≡◌, ℕ, if◌then◌else◌, List, Option, Some, None, Result, Ok, Err, ⊤}
use Rattle.ssh_wire.specs.Reading.{◌>>=◌, in_fault}
use Rattle.ssh_key.specs.Key.{PublicKey, blob_of}
use Rattle.ssh_key.specs.KeyReading.{key_at}
use Rattle.ssh_key.specs.declared.fault.KeyFault.{KeyFault}
use Rattle.ssh_key.specs.declared.fault.KeyFault.TheVariants as keys
use Rattle.openssh_keys.specs.Judgement.{judgement_of}
use Rattle.openssh_keys.specs.declared.judgement.Judgement.{Judgement}
use Rattle.openssh_keys.specs.declared.judgement.Judgement.TheVariants.{Accepted, Long, Point}
use Rattle.openssh_keys.specs.declared.judgement.Judgement.TheVariants.{Short}
use Rattle.key_text.specs.declared.line_fault.LineFault.TheVariants as lines
use Rattle.ssh_cert.specs.declared.subject_fault.SubjectFault.TheVariants as subjects
use Rattle.keyed_lines.specs.Keys.{subject_in}
use Rattle.keyed_lines.specs.declared.key_cause.KeyCause.{KeyCause}
use Rattle.keyed_lines.specs.declared.key_cause.KeyCause.TheVariants as causes
use Rattle.plain_list.specs.Line.{begins_with_key, content_of, is_remark}
use Rattle.plain_list.specs.declared.fault.PlainFault.{PlainFault}
use Rattle.plain_list.specs.declared.fault.PlainFault.TheVariants as faults

abbrev pub key_cause : KeyFault → KeyCause
key_cause fault = causes.Subject (subjects.Key fault)

-- The line of a short key is skipped. A long number and an invalid point are faults.
abbrev pub by_judgement : Judgement → List ℕ → Result (Option (List ℕ)) KeyCause
by_judgement Accepted blob = Ok (Some blob)
by_judgement Short blob = Ok None
by_judgement Long blob = Err (key_cause keys.TooLong)
by_judgement Point blob = Err (key_cause keys.Point)

abbrev pub judged_key : PublicKey → Result (Option (List ℕ)) KeyCause
judged_key key = by_judgement (judgement_of key) (blob_of key)

-- the plain key of a key line, or that of its certificate
abbrev pub key_line_key : List ℕ → Result (Option (List ℕ)) KeyCause
key_line_key content = do
  asked ← subject_in content
  key ← in_fault key_cause (key_at asked.plain)
  judged_key key

-- the key of the content of a line
unfoldable pub text_key : List ℕ → Result (Option (List ℕ)) KeyCause
text_key content =
    if begins_with_key content then key_line_key content else Err (causes.Line lines.NoKey)

-- the key that a line revokes, if it revokes one
unfoldable pub line_key : List ℕ → Result (Option (List ℕ)) KeyCause
line_key line = if is_remark (content_of line) then Ok None else text_key (content_of line)

-- The fault is the cause that reading the line gives, with the line's number, or an allocation
-- failed.
abbrev pub Reports : {A : Type 0} → ℕ → PlainFault → Result A KeyCause → Type 0
Reports number faults.TooLong read = ⊥
Reports number (faults.Line at cause) read = (at ≡ number) × (read ≡ Err cause)
Reports number faults.NoMemory read = ⊤

-- The key that reading the line gives was returned, or why there is none.
abbrev pub Gives : ℕ → Result (Option (List ℕ)) PlainFault → Result (Option (List ℕ)) KeyCause
    → Type 0
Gives number (Ok key) read = read ≡ Ok key
Gives number (Err fault) read = Reports number fault read
