-- The first key of a file is read exactly where the file spells it; otherwise its first fault is reported.
use Rattle.std.proofs.Common.{◌≡◌, ◌↔◌, ℕ, ◌+◌, ◌^◌, ◌<◌, true, false, List, [], ◌∷◌, ◌++◌, length, Ok, Err, Result, is_some, refl, sym, ap, subst, ◌∙◌, arith, inl, inr, ◌⊎◌}
use Rattle.std.specs.List.{All, slice_split}
use Rattle.std.proofs.lemmas.Bool.{cases_Bool}
use Rattle.std.proofs.lemmas.List.{get_or_at, length-append}
use Rattle.std.proofs.lemmas.List.Elements.{All-cons, All-head, All-nil, All-tail}
use Rattle.ssh_wire.specs.Reading.{◌>>=◌}
use Rattle.ssh_wire.specs.Wire.{IsBytes}
use Rattle.ssh_wire.proofs.Fields.{string_again}
use Rattle.ssh_wire.proofs.Steps.{err_is, ok_is, ok_or_err, ok_or_not}
use Rattle.ssh_key.specs.Key.{IsKey, PublicKey, blob_of}
use Rattle.ssh_key.specs.KeyReading.{key_at}
use Rattle.ssh_key.specs.Kind.{kind_certified, type_name}
use Rattle.ssh_key.specs.declared.kind.Kind.{Kind}
use Rattle.ssh_key.specs.declared.kind.Kind.TheVariants.{Rsa, Dsa, Ecdsa256, Ecdsa384, Ecdsa521, Ed25519, EcdsaSk, Ed25519Sk}
use Rattle.key_text.specs.Armour.{begins_container}
use Rattle.key_text.specs.Container.{IsContainer, IsPrivateFault}
use Rattle.key_text.specs.ContainerReading.{private_at}
use Rattle.key_text.specs.KeyFile.{has_key}
use Rattle.key_text.specs.LineReading.{line_at}
use Rattle.key_text.specs.Lines.{is_newline}
use Rattle.key_text.specs.declared.private_fault.PrivateFault.{PrivateFault}
use Rattle.krl_types.specs.Subject.{Subject}
use Rattle.ssh_cert.specs.SubjectReading.{is_certificate, of_key, subject_of}
use Rattle.krl_make.proofs.LineBytes.{lines_bytes}
use Rattle.keyed_lines.specs.Keys.{IsKeyFault, IsSubjectLine, subject_in}
use Rattle.keyed_lines.specs.declared.key_cause.KeyCause.{KeyCause}
use Rattle.keyed_lines.specs.declared.key_cause.KeyCause.TheVariants as keys
use Rattle.run_faults.specs.Keys.{key_of_container, key_in, keys_from, key_of_line, run_fault_at}
use Rattle.run_faults.specs.RunFault.{RunFault, run_fault_of}
use Rattle.run_faults.specs.declared.file_fault.FileFault.TheVariants as files
use Rattle.run_faults.specs.declared.cause.Cause.TheVariants as causes
use Rattle.krl_make.specs.FirstKey.{HaveNoKey, IsFirstKey, IsFirstKeyFault, IsFirstKeyLine, in_container, in_line, of_container, of_line, without_key}
use Rattle.krl_make.specs.Making.{file_run_fault, first_blob, first_key_of, key_blob}

-- the laws of key lines and of containers
pub record KeyLaws : Type 0 where
  pub keys : (text : List ℕ) (asked : Subject) → IsBytes text
      → (subject_in text ≡ Ok asked) ↔ IsSubjectLine text asked
  pub no_keys : (text : List ℕ) (cause : KeyCause) → IsBytes text
      → (subject_in text ≡ Err cause) ↔ IsKeyFault text cause
  pub opened : (text blob comment : List ℕ) → IsBytes text
      → (private_at text ≡ Ok (record { blob = blob; comment = comment }))
      ↔ IsContainer text blob comment
  pub not_opened : (text : List ℕ) (fault : PrivateFault) → IsBytes text
      → (private_at text ≡ Err fault) ↔ IsPrivateFault text fault
  pub read_back : (blob : List ℕ) (key : PublicKey) → IsKey blob key
      → (blob_of key ≡ blob) × (key_at (blob_of key) ≡ Ok key)

-- ---- the key of a line

abbrev line_key : List ℕ → ℕ → List ℕ → Result (List ℕ) RunFault
line_key name number line = key_of_line name number (line_at line) >>= key_blob

-- reading a line here, and as a key line
data ReadLine (name : List ℕ) (number : ℕ) (line : List ℕ) : Type 0 where
  asks : (asked : Subject) → subject_in line ≡ Ok asked → line_key name number line ≡ Ok asked.plain → ReadLine name number line
  asks_nothing : (fault : KeyCause) → subject_in line ≡ Err fault → line_key name number line ≡ Err (run_fault_at name number (causes.Key fault)) → ReadLine name number line

read_line : (name : List ℕ) (number : ℕ) (line : List ℕ) → ReadLine name number line
unfolding subject_in
read_line name number line = elim (ok_or_not (line_at line)) [
  | inr no_line ↦ asks_nothing (keys.Line no_line.0) (rw no_line.1 refl) (rw no_line.1 refl)
  | inl read ↦ elim (ok_or_not (subject_of read.0.blob)) [
    | inl asked ↦ asks asked.0 (rw (read.1, asked.1) refl) (rw (read.1, asked.1) refl)
    | inr no_subject ↦ asks_nothing (keys.Subject no_subject.0) (rw (read.1, no_subject.1) refl) (rw (read.1, no_subject.1) refl)
  ]
]

line_key_again : KeyLaws → (name : List ℕ) (number : ℕ) (line : List ℕ) (asked : Subject) → IsBytes line → IsSubjectLine line asked → line_key name number line ≡ Ok asked.plain
line_key_again laws name number line asked fits is =
    let given = (laws.keys line asked fits).1 is in
    elim (read_line name number line) [
      | asks other read key ↦ key ∙ ap (λ (s : Subject). Ok s.plain) (ok_is other asked (subject_in line) read given)
      | asks_nothing fault read stop ↦ absurd (ok_or_err asked fault (subject_in line) given read)
    ]

line_fault_met : KeyLaws → (name : List ℕ) (number : ℕ) (line : List ℕ) (fault : KeyCause) → IsBytes line → IsKeyFault line fault → line_key name number line ≡ Err (run_fault_at name number (causes.Key fault))
line_fault_met laws name number line fault fits first =
    let given = (laws.no_keys line fault fits).1 first in
    elim (read_line name number line) [
      | asks asked read key ↦ absurd (ok_or_err asked fault (subject_in line) read given)
      | asks_nothing other read stop ↦ stop ∙ ap (λ (f : KeyCause). Err (run_fault_at name number (causes.Key f))) (err_is other fault (subject_in line) read given)
    ]

-- ---- the key of a container

abbrev inside_key : List ℕ → List ℕ → Result (List ℕ) RunFault
inside_key name text = key_of_container name (private_at text) >>= key_blob

-- the type name of a plain key is short, and not that of a certificate
plain_name : (kind : Kind) → (length (type_name kind) < 2 ^ 32) × (is_some (kind_certified (type_name kind)) ≡ false)
unfolding kind_certified
plain_name Rsa = (omega arith, refl)
plain_name Dsa = (omega arith, refl)
plain_name Ecdsa256 = (omega arith, refl)
plain_name Ecdsa384 = (omega arith, refl)
plain_name Ecdsa521 = (omega arith, refl)
plain_name Ed25519 = (omega arith, refl)
plain_name EcdsaSk = (omega arith, refl)
plain_name Ed25519Sk = (omega arith, refl)

-- the subject of a plain key's blob is the blob itself
plain_asked : KeyLaws → (blob : List ℕ) (key : PublicKey) → IsKey blob key → subject_of blob ≡ Ok (of_key blob)
unfolding subject_of is_certificate
plain_asked laws blob key is =
    let back = laws.read_back blob key is in
    let reads : key_at blob ≡ Ok key = ap key_at (sym back.0) ∙ back.1 in
    let name = plain_name key.kind in
    let plain : is_certificate blob ≡ false = ap is_certificate (sym back.0) ∙ rw (string_again (type_name key.kind) key.fields name.0) name.1 in
    rw (plain, reads) refl

inside_again : KeyLaws → (name text blob comment : List ℕ) → IsBytes text → IsContainer text blob comment → inside_key name text ≡ Ok blob
inside_again laws name text blob comment fits is = rw ((laws.opened text blob comment fits).1 is, plain_asked laws blob is.key is.is_key) refl

inside_fault_met : KeyLaws → (name text : List ℕ) (fault : PrivateFault) → IsBytes text → IsPrivateFault text fault → inside_key name text ≡ Err (run_fault_of name (causes.Private fault))
inside_fault_met laws name text fault fits is = rw ((laws.not_opened text fault fits).1 is) refl

-- ---- the first line with a key

-- the first of the lines that has a key
record IsFirstFrom (lines : List (List ℕ)) : Type 0 where
  before : List (List ℕ)
  line : List ℕ
  after : List (List ℕ)
  parts : lines ≡ before ++ line ∷ after
  none : HaveNoKey before
  has : has_key line ≡ true

none_or_first : (lines : List (List ℕ)) → HaveNoKey lines ⊎ IsFirstFrom lines
none_or_first [] = inl (All-nil (λ line. has_key line ≡ false))
none_or_first (line ∷ lines) = elim (cases_Bool (has_key line)) [
  | inl has ↦ inr (record { before = []; line = line; after = lines; parts = refl; none = All-nil (λ line. has_key line ≡ false); has = has })
  | inr none ↦ elim (none_or_first lines) [
    | inl others ↦ inl (All-cons (λ line. has_key line ≡ false) line lines none others)
    | inr first ↦ inr (record {
      before = line ∷ first.before;
      line = first.line;
      after = first.after;
      parts = ap (λ (xs : List (List ℕ)). line ∷ xs) first.parts;
      none = All-cons (λ line. has_key line ≡ false) line first.before none first.none;
      has = first.has;
    })
  ]
]

-- the first key of lines
abbrev first_key_from : List ℕ → ℕ → List (List ℕ) → Result (List ℕ) RunFault
first_key_from name number lines = first_blob name (keys_from name number lines)

no_key_from : (name : List ℕ) (number : ℕ) (lines : List (List ℕ)) → HaveNoKey lines → first_key_from name number lines ≡ Err (file_run_fault name files.NoKeys)
unfolding key_in
no_key_from name number [] none = refl
no_key_from name number (line ∷ lines) none =
    rw (All-head (λ line. has_key line ≡ false) line lines none) (no_key_from name (number + 1) lines (All-tail (λ line. has_key line ≡ false) line lines none))

first_from : (name : List ℕ) (number : ℕ) (before : List (List ℕ)) (line : List ℕ) (after : List (List ℕ)) → HaveNoKey before → has_key line ≡ true
    → first_key_from name number (before ++ line ∷ after) ≡ line_key name (number + length before) line
unfolding key_in
first_from name number [] line after none has =
    let same : number + 0 ≡ number = omega arith in
    rw (has, same) refl
first_from name number (other ∷ before) line after none has =
    let here = All-head (λ line. has_key line ≡ false) other before none in
    let later = first_from name (number + 1) before line after (All-tail (λ line. has_key line ≡ false) other before none) has in
    let same : number + 1 + length before ≡ number + length (other ∷ before) = omega arith in
    rw here later ∙ ap (λ (n : ℕ). line_key name n line) same

-- ---- the first key

line_bytes : (text : List ℕ) (number : ℕ) (line : List ℕ) → IsFirstKeyLine text number line → IsBytes text → IsBytes line
line_bytes text number line is fits =
    let each : All IsBytes (is.before ++ line ∷ is.after) = subst (All IsBytes) is.parts (lines_bytes text fits) in
    subst IsBytes (get_or_at is.before line is.after [] (length is.before) refl) (each (length is.before) [] (omega (arith, length-append is.before (line ∷ is.after))))

first_line : (name text : List ℕ) (number : ℕ) (line : List ℕ) → IsFirstKeyLine text number line → first_key_from name 1 (slice_split is_newline text) ≡ line_key name number line
first_line name text number line is =
    ap (first_key_from name 1) is.parts ∙ first_from name 1 is.before line is.after is.none is.has ∙ ap (λ (n : ℕ). line_key name n line) (sym is.counted)

numbered : (text : List ℕ) (first : IsFirstFrom (slice_split is_newline text)) → IsFirstKeyLine text (1 + length first.before) first.line
numbered text first = record { before = first.before; after = first.after; parts = first.parts; none = first.none; has = first.has; counted = refl }

by_container : (name text : List ℕ) → begins_container text ≡ true → first_key_of name text ≡ inside_key name text
unfolding first_key_of
by_container name text begins = rw begins refl

by_lines : (name text : List ℕ) → begins_container text ≡ false → first_key_of name text ≡ first_key_from name 1 (slice_split is_newline text)
unfolding first_key_of
by_lines name text none = rw none refl

-- reading a file's text
data ReadKey (name text : List ℕ) : Type 0 where
  gives : (blob : List ℕ) → IsFirstKey text blob → first_key_of name text ≡ Ok blob → ReadKey name text
  stops_at : (stop : RunFault) → IsFirstKeyFault name text stop → first_key_of name text ≡ Err stop → ReadKey name text

read_inside : KeyLaws → (name text : List ℕ) → IsBytes text → begins_container text ≡ true → ReadKey name text
read_inside laws name text fits begins = elim (ok_or_not (private_at text)) [
  | inl read ↦
      let is = (laws.opened text read.0.blob read.0.comment fits).0 read.1 in
      gives read.0.blob (of_container read.0.comment begins is) (by_container name text begins ∙ inside_again laws name text read.0.blob read.0.comment fits is)
  | inr shut ↦
      let is = (laws.not_opened text shut.0 fits).0 shut.1 in
      stops_at (run_fault_of name (causes.Private shut.0)) (in_container shut.0 begins is refl) (by_container name text begins ∙ inside_fault_met laws name text shut.0 fits is)
]

read_first_line : KeyLaws → (name text : List ℕ) (number : ℕ) (line : List ℕ) → IsBytes text → begins_container text ≡ false → IsFirstKeyLine text number line → ReadKey name text
read_first_line laws name text number line fits plain first =
    let bytes = line_bytes text number line first fits in
    let same = by_lines name text plain ∙ first_line name text number line first in
    elim (read_line name number line) [
      | asks asked read key ↦ gives asked.plain (of_line number line asked plain first ((laws.keys line asked bytes).0 read) refl) (same ∙ key)
      | asks_nothing fault read stop ↦
          let why = (laws.no_keys line fault bytes).0 read in
          stops_at (run_fault_at name number (causes.Key fault)) (in_line number line fault plain first why refl) (same ∙ stop)
    ]

read_key : KeyLaws → (name text : List ℕ) → IsBytes text → ReadKey name text
read_key laws name text fits = elim (cases_Bool (begins_container text)) [
  | inl begins ↦ read_inside laws name text fits begins
  | inr plain ↦ elim (none_or_first (slice_split is_newline text)) [
    | inl none ↦ stops_at (file_run_fault name files.NoKeys) (without_key plain none refl) (by_lines name text plain ∙ no_key_from name 1 (slice_split is_newline text) none)
    | inr first ↦ read_first_line laws name text (1 + length first.before) first.line fits plain (numbered text first)
  ]
]

pub first_key_found : KeyLaws → (name text blob : List ℕ) → IsBytes text → first_key_of name text ≡ Ok blob → IsFirstKey text blob
first_key_found laws name text blob fits e = elim (read_key laws name text fits) [
  | gives other is read ↦ subst (IsFirstKey text) (ok_is other blob (first_key_of name text) read e) is
  | stops_at stop is read ↦ absurd (ok_or_err blob stop (first_key_of name text) e read)
]

pub first_key_again : KeyLaws → (name text blob : List ℕ) → IsBytes text → IsFirstKey text blob → first_key_of name text ≡ Ok blob
first_key_again laws name text blob fits (of_container comment begins is) = by_container name text begins ∙ inside_again laws name text blob comment fits is
first_key_again laws name text blob fits (of_line number line asked plain is is_line same) =
    by_lines name text plain ∙ first_line name text number line is ∙ line_key_again laws name number line asked (line_bytes text number line is fits) is_line ∙ ap (λ (xs : List ℕ). Ok xs) (sym same)

pub first_key_refused : KeyLaws → (name text : List ℕ) (stop : RunFault) → IsBytes text → first_key_of name text ≡ Err stop → IsFirstKeyFault name text stop
first_key_refused laws name text stop fits e = elim (read_key laws name text fits) [
  | gives blob is read ↦ absurd (ok_or_err blob stop (first_key_of name text) read e)
  | stops_at other is read ↦ subst (IsFirstKeyFault name text) (err_is other stop (first_key_of name text) read e) is
]

pub first_key_fault_met : KeyLaws → (name text : List ℕ) (stop : RunFault) → IsBytes text → IsFirstKeyFault name text stop → first_key_of name text ≡ Err stop
first_key_fault_met laws name text stop fits (in_container fault begins first is) =
    by_container name text begins ∙ inside_fault_met laws name text fault fits first ∙ ap (λ (s : RunFault). Err s) (sym is)
first_key_fault_met laws name text stop fits (without_key plain none is) =
    by_lines name text plain ∙ no_key_from name 1 (slice_split is_newline text) none ∙ ap (λ (s : RunFault). Err s) (sym is)
first_key_fault_met laws name text stop fits (in_line number line fault plain first has is) =
    by_lines name text plain ∙ first_line name text number line first ∙ line_fault_met laws name number line fault (line_bytes text number line first fits) has ∙ ap (λ (s : RunFault). Err s) (sym is)
