-- The spelling of the lines of a plain list.
use Rattle.std.specs.Prelude.{◌≡◌, ℕ, true, false, ◌⊎◌, List, [], ◌∷◌, Option, Some, None}
use Rattle.std.specs.Prelude.{MatchOption}
use Rattle.ssh_key.specs.Key.{IsKey, PublicKey, blob_of}
use Rattle.ssh_key.specs.declared.fault.KeyFault.TheVariants as keys
use Rattle.openssh_keys.specs.Judgement.{judgement_of}
use Rattle.openssh_keys.specs.declared.judgement.Judgement.TheVariants.{Accepted, Long, Point}
use Rattle.openssh_keys.specs.declared.judgement.Judgement.TheVariants.{Short}
use Rattle.key_text.specs.declared.line_fault.LineFault.TheVariants as lines
use Rattle.krl_types.specs.Subject.{Subject}
use Rattle.ssh_cert.specs.declared.subject_fault.SubjectFault.TheVariants as subjects
use Rattle.keyed_lines.specs.Keys.{IsKeyFault, IsSubjectLine}
use Rattle.keyed_lines.specs.declared.key_cause.KeyCause.{KeyCause}
use Rattle.keyed_lines.specs.declared.key_cause.KeyCause.TheVariants as causes
use Rattle.plain_list.specs.Line.{begins_with_key, content_of, is_remark}

-- The content of a line is neither empty nor a comment, and begins with the type name of a key.
pub record BeginsWithKey (line : List ℕ) : Type 0 where
  pub no_remark : is_remark (content_of line) ≡ false
  pub begins : begins_with_key (content_of line) ≡ true

-- The line is a key line with this plain key, or with a certificate of it.
pub record HasKey (line : List ℕ) (key : PublicKey) : Type 0 where
  pub begins : BeginsWithKey line
  pub asked : Subject
  pub is_line : IsSubjectLine (content_of line) asked
  pub is_key : IsKey asked.plain key

-- The key that a line revokes, if it revokes one.
pub data Revokes (line : List ℕ) (given : Option (List ℕ)) : Type 0 where
  remark : is_remark (content_of line) ≡ true → given ≡ None → Revokes line given
  short : (key : PublicKey) → HasKey line key → judgement_of key ≡ Short → given ≡ None
      → Revokes line given
  one_key : (key : PublicKey) → HasKey line key → judgement_of key ≡ Accepted
      → given ≡ Some (blob_of key) → Revokes line given

-- Why a line is refused: something is before its key, it is no key line or its blob is no key, or a
-- number of the key is too long, or its point is invalid.
pub data IsLineFault (line : List ℕ) (cause : KeyCause) : Type 0 where
  no_name : is_remark (content_of line) ≡ false → begins_with_key (content_of line) ≡ false
      → cause ≡ causes.Line lines.NoKey → IsLineFault line cause
  no_key : BeginsWithKey line → IsKeyFault (content_of line) cause → IsLineFault line cause
  long : (key : PublicKey) → HasKey line key → judgement_of key ≡ Long
      → cause ≡ causes.Subject (subjects.Key keys.TooLong) → IsLineFault line cause
  no_point : (key : PublicKey) → HasKey line key → judgement_of key ≡ Point
      → cause ≡ causes.Subject (subjects.Key keys.Point) → IsLineFault line cause

-- ---- what the list revokes

-- Some line revokes this key.
abbrev pub IsOnLine : List (List ℕ) → (blob : List ℕ) → Type 0
IsOnLine [] blob = ⊥
IsOnLine (line ∷ lines) blob = Revokes line (Some blob) ⊎ IsOnLine lines blob

-- A plain key, or the plain key of a certificate, is on a line; or the key of the certificate's
-- authority is.
abbrev pub IsRevokedByLine : List (List ℕ) → Subject → Type 0
IsRevokedByLine lines subject =
    IsOnLine lines subject.plain
    ⊎ MatchOption subject.cert ⊥ (λ cert. IsOnLine lines cert.authority)
