-- The key of a line is read as the line spells it.
use Rattle.std.proofs.Common.{◌≡◌, ◌↔◌, ℕ, ◌==◌, not, true, false, List, Option, Result, Ok, Err, refl, sym, ◌∙◌, inl, inr}
use Rattle.std.proofs.lemmas.Bool.{cases_Bool}
use Rattle.ssh_wire.specs.Reading.{◌>>=◌, in_fault}
use Rattle.ssh_wire.specs.Wire.{IsBytes}
use Rattle.ssh_wire.proofs.Digits.{IsBytes-drop, IsBytes-take}
use Rattle.ssh_wire.proofs.Steps.{bind_err, bind_ok}
use Rattle.ssh_key.specs.Key.{IsKey, PublicKey, blob_of}
use Rattle.ssh_key.specs.KeyReading.{key_at}
use Rattle.std.specs.List.{prefix_len}
use Rattle.key_text.specs.Blanks.{after_blanks, is_blank}
use Rattle.krl_types.specs.Subject.{Subject}
use Rattle.ssh_cert.proofs.Subjects.{plain_is_key}
use Rattle.keyed_lines.specs.Keys.{IsKeyFault, IsSubjectLine, subject_in}
use Rattle.keyed_lines.specs.declared.key_cause.KeyCause.{KeyCause}
use Rattle.plain_list.specs.Line.{before_zero, begins_with_key, content_of, is_remark}
use Rattle.plain_list.specs.Key.{by_judgement, judged_key, key_cause, key_line_key, line_key, text_key}
use Rattle.plain_list.specs.Spelled.{BeginsWithKey, HasKey, IsLineFault, Revokes, long, no_key, no_name, no_point, one_key, remark, short}
use Rattle.openssh_keys.specs.Judgement.{judgement_of}
use Rattle.openssh_keys.specs.declared.judgement.Judgement.{Judgement}
use Rattle.openssh_keys.specs.declared.judgement.Judgement.TheVariants.{Accepted, Long, Point, Short}

-- the laws of key lines and of keys
pub record Laws : Type 0 where
  pub keyed : (text : List ℕ) (asked : Subject) → IsBytes text
      → (subject_in text ≡ Ok asked) ↔ IsSubjectLine text asked
  pub not_keyed : (text : List ℕ) (cause : KeyCause) → IsBytes text
      → (subject_in text ≡ Err cause) ↔ IsKeyFault text cause
  pub read_back : (blob : List ℕ) (key : PublicKey) → IsKey blob key
      → (blob_of key ≡ blob) × (key_at (blob_of key) ≡ Ok key)

-- ---- the parts of a line

content_fits : (line : List ℕ) → IsBytes line → IsBytes (content_of line)
unfolding before_zero after_blanks
content_fits line fits = IsBytes-drop (prefix_len is_blank (before_zero line)) (before_zero line) (IsBytes-take (prefix_len (λ byte. not (byte == 0)) line) line fits)

key_is_read : Laws → (plain : List ℕ) (key : PublicKey) → IsKey plain key → key_at plain ≡ Ok key
key_is_read laws plain key is = let back = laws.read_back plain key is in rw (← back.0) back.1

-- A line with a key is read up to the judgement on the key.
line_with_key : Laws → (line : List ℕ) (key : PublicKey) → IsBytes line → HasKey line key → line_key line ≡ judged_key key
unfolding line_key text_key
line_with_key laws line key fits has =
    rw (has.begins.no_remark, has.begins.begins, (laws.keyed (content_of line) has.asked (content_fits line fits)).1 has.is_line, key_is_read laws has.asked.plain key has.is_key) refl

-- and so is the content of a line that begins with a key
begins_so : (line : List ℕ) → BeginsWithKey line → line_key line ≡ key_line_key (content_of line)
unfolding line_key text_key
begins_so line begins = rw (begins.no_remark, begins.begins) refl

-- ---- what was read

-- A line begins with a key, is empty or a comment, or something is before its key.
data Starts (line : List ℕ) : Type 0 where
  remarks : is_remark (content_of line) ≡ true → Starts line
  other_start : is_remark (content_of line) ≡ false → begins_with_key (content_of line) ≡ false → Starts line
  at_key : BeginsWithKey line → Starts line

starts : (line : List ℕ) → Starts line
starts line = elim (cases_Bool (is_remark (content_of line))) [
  | inl is ↦ remarks is
  | inr text ↦ elim (cases_Bool (begins_with_key (content_of line))) [
    | inl is ↦ at_key (record { no_remark = text; begins = is })
    | inr other ↦ other_start text other
  ]
]

-- the judgement on the key of a subject
abbrev keyed : Subject → Result (Option (List ℕ)) KeyCause
keyed asked = in_fault key_cause (key_at asked.plain) >>= judged_key

judged_found : (line : List ℕ) (key : PublicKey) (given : Option (List ℕ)) (judgement : Judgement) → HasKey line key → judgement_of key ≡ judgement
    → by_judgement judgement (blob_of key) ≡ Ok given → Revokes line given
judged_found line key given Short has is e = short key has is (cc)
judged_found line key given Accepted has is e = one_key key has is (cc)
judged_found line key given Long has is e = absurd (cc)
judged_found line key given Point has is e = absurd (cc)

judged_refused : (line : List ℕ) (key : PublicKey) (cause : KeyCause) (judgement : Judgement) → HasKey line key → judgement_of key ≡ judgement
    → by_judgement judgement (blob_of key) ≡ Err cause → IsLineFault line cause
judged_refused line key cause Short has is e = absurd (cc)
judged_refused line key cause Accepted has is e = absurd (cc)
judged_refused line key cause Long has is e = long key has is (cc)
judged_refused line key cause Point has is e = no_point key has is (cc)

-- a key line with a subject has a key
has_key : Laws → (line : List ℕ) (asked : Subject) → IsBytes line → BeginsWithKey line → subject_in (content_of line) ≡ Ok asked
    → (key : PublicKey) × HasKey line key
has_key laws line asked fits begins e =
    let is_line = (laws.keyed (content_of line) asked (content_fits line fits)).0 e in
    let key = plain_is_key is_line.blob asked is_line.asks in
    (key.0, record { begins = begins; asked = asked; is_line = is_line; is_key = key.1 })

key_found : Laws → (line : List ℕ) (given : Option (List ℕ)) → IsBytes line → BeginsWithKey line → key_line_key (content_of line) ≡ Ok given → Revokes line given
key_found laws line given fits begins e =
    let asked = bind_ok (subject_in (content_of line)) keyed given e in
    let key = has_key laws line asked.0 fits begins asked.1 in
    judged_found line key.0 given (judgement_of key.0) key.1 refl (sym (line_with_key laws line key.0 fits key.1) ∙ (begins_so line begins ∙ e))

pub line_found : Laws → (line : List ℕ) (given : Option (List ℕ)) → IsBytes line → line_key line ≡ Ok given → Revokes line given
unfolding line_key text_key
line_found laws line given fits e = elim (starts line) [
  | remarks is ↦ remark is (let here = rw is at e in cc)
  | other_start text other ↦ absurd (let here = rw (text, other) at e in cc)
  | at_key is ↦ key_found laws line given fits is (sym (begins_so line is) ∙ e)
]

pub line_again : Laws → (line : List ℕ) (given : Option (List ℕ)) → IsBytes line → Revokes line given → line_key line ≡ Ok given
unfolding line_key
line_again laws line given fits (remark is none) = rw (is, none) refl
line_again laws line given fits (short key has is none) = line_with_key laws line key fits has ∙ rw (is, none) refl
line_again laws line given fits (one_key key has is some) = line_with_key laws line key fits has ∙ rw (is, some) refl

-- ---- why a line is refused

key_refused : Laws → (line : List ℕ) (cause : KeyCause) → IsBytes line → BeginsWithKey line → key_line_key (content_of line) ≡ Err cause → IsLineFault line cause
key_refused laws line cause fits begins e = elim (bind_err (subject_in (content_of line)) keyed cause e) [
  | inl refused ↦ no_key begins ((laws.not_keyed (content_of line) cause (content_fits line fits)).0 refused)
  | inr asked ↦
      let key = has_key laws line asked.0 fits begins asked.1 in
      judged_refused line key.0 cause (judgement_of key.0) key.1 refl (sym (line_with_key laws line key.0 fits key.1) ∙ (begins_so line begins ∙ e))
]

pub line_refused : Laws → (line : List ℕ) (cause : KeyCause) → IsBytes line → line_key line ≡ Err cause → IsLineFault line cause
unfolding line_key text_key
line_refused laws line cause fits e = elim (starts line) [
  | remarks is ↦ absurd (let here = rw is at e in cc)
  | other_start text other ↦ no_name text other (let here = rw (text, other) at e in cc)
  | at_key is ↦ key_refused laws line cause fits is (sym (begins_so line is) ∙ e)
]

pub fault_met : Laws → (line : List ℕ) (cause : KeyCause) → IsBytes line → IsLineFault line cause → line_key line ≡ Err cause
unfolding line_key text_key
fault_met laws line cause fits (no_name text other is) = rw (text, other, is) refl
fault_met laws line cause fits (no_key begins first) =
    begins_so line begins ∙ rw ((laws.not_keyed (content_of line) cause (content_fits line fits)).1 first) refl
fault_met laws line cause fits (long key has is same) = line_with_key laws line key fits has ∙ rw (is, same) refl
fault_met laws line cause fits (no_point key has is same) = line_with_key laws line key fits has ∙ rw (is, same) refl
