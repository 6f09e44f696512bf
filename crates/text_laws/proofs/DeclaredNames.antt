-- The names that are known behind a text are names that lines can give.
use Rattle.std.proofs.Common.{◌≡◌, ℕ, ℤ, ◌+◌, Bool, true, false, List, [], ◌∷◌, ◌++◌, Option, Some, None, Result, Ok, Err, refl, subst, ap, ◌∙◌, inl, inr}
use Rattle.std.specs.List.{slice_split}
use Rattle.std.proofs.lemmas.Bool.{cases_Bool}
use Rattle.key_text.specs.Blanks.{after_blanks}
use Rattle.key_text.specs.LineReading.{KeyLine, line_at}
use Rattle.key_text.specs.Lines.{is_newline}
use Rattle.keyed_lines.specs.Keys.{subject_in}
use Rattle.keyed_lines.specs.declared.key_cause.KeyCause.TheVariants as keys
use Rattle.krl_spec.specs.Blanks.{bare_line}
use Rattle.krl_spec.specs.declared.directive.Directive.TheVariants as directives
use Rattle.krl_types.specs.Entry.{Entry}
use Rattle.krl_types.specs.Subject.{CertNames, Subject}
use Rattle.run_faults.specs.declared.spec_cause.SpecCause.TheVariants as specs
use Rattle.ssh_cert.specs.Cert.{Cert}
use Rattle.ssh_cert.specs.CertReading.{certificate_at}
use Rattle.ssh_cert.specs.SubjectReading.{certificate_subject, is_certificate, key_subject, names_of, of_certificate, of_key, subject_of}
use Rattle.ssh_cert.specs.declared.fault.CertFault.{CertFault}
use Rattle.ssh_key.specs.Key.{PublicKey}
use Rattle.ssh_key.specs.KeyReading.{key_at}
use Rattle.ssh_key.specs.declared.fault.KeyFault.{KeyFault}
use Rattle.ssh_wire.specs.Reading.{◌>>=◌, in_fault}
use Rattle.ssh_wire.proofs.Steps.{bind_ok, in_fault_ok, passed_ok}
use Rattle.text_entries.specs.AuthorityNames.{NamedKeys, can_have, is_name}
use Rattle.text_entries.specs.Day.{dated_content, is_over, last_day, until_in}
use Rattle.text_entries.specs.Lines.{LineEntries, before_later, beginning, lines_from, lines_with, with_entry}
use Rattle.text_entries.specs.Mark.{Mark, given_behind, mark_in}
use Rattle.text_entries.specs.Named.{can_end, named_in}
use Rattle.text_entries.specs.Says.{Saying, bare_key_entry, content_says, current_says, declares, ending_says, entry_said, hash_entry, id_entry, id_hex_entry, is_misplaced, key_blob_entry, keyed_entry, line_says, mark_with, marked_entry, name_says, names_says, order_says, serial_entry, standing_after, under_says, unless_other, unless_over, unmarked_says, until_says, word_says}
use Rattle.text_entries.specs.Values.{authority_blob_in, authority_in, authority_key_in, bare_authority_in, begins_with_key, unless_certified}
use Rattle.text_entries.specs.Word.{Order, order_in}
use Rattle.text_entries.specs.declared.standing.Standing.{Standing}
use Rattle.text_entries.specs.declared.text_cause.TextCause.{TextCause}
use Rattle.text_entries.specs.declared.text_cause.TextCause.TheVariants.{OtherKey, Spec}
use Rattle.text_entries.specs.declared.text_fault.TextFault.{TextFault}
use Rattle.text_entries.specs.declared.word.Word.{Word}
use Rattle.text_entries.specs.declared.word.Word.TheVariants as words
use Rattle.text_run.specs.Making.{Text, TextEntries, bytes_from, text_from, texts_from, unless_fault, unread}
use Rattle.text_laws.specs.Names.{AreDeclared, CanBeNamed}
use Rattle.text_laws.proofs.KnownNames.{still_declared}

-- ---- the key that a line declares

abbrev IsPlain : List ℕ → Type 0
IsPlain blob = (key : PublicKey) × (key_at blob ≡ Ok key)

not_certified : (plain : List ℕ) (cert : Option CertNames) (key : List ℕ) → unless_certified plain cert ≡ Ok key → (cert ≡ None) × (plain ≡ key)
not_certified plain None key is = (refl, cc)
not_certified plain (Some names) key is = absurd cc

no_certificate : (read : Result Cert CertFault) (asked : Subject) → certificate_subject read ≡ Ok asked → asked.cert ≡ None → ⊥
no_certificate (Ok certificate) asked is none =
    let same : of_certificate certificate ≡ asked = cc in
    let cert : Some (names_of certificate) ≡ None = ap (λ (subject : Subject). subject.cert) same ∙ none in
    cc
no_certificate (Err fault) asked is none = cc

key_read : (blob : List ℕ) (read : Result PublicKey KeyFault) (asked : Subject) → key_at blob ≡ read → key_subject blob read ≡ Ok asked → IsPlain asked.plain
key_read blob (Ok key) asked read is =
    let same : of_key blob ≡ asked = cc in
    (key, subst (λ (subject : Subject). key_at subject.plain ≡ Ok key) same read)
key_read blob (Err fault) asked read is = absurd cc

subject_plain : (blob : List ℕ) (asked : Subject) → subject_of blob ≡ Ok asked → asked.cert ≡ None → IsPlain asked.plain
unfolding subject_of
subject_plain blob asked is none = elim (cases_Bool (is_certificate blob)) [
  | inl certified ↦ absurd (no_certificate (certificate_at blob) asked (rw certified at is) none)
  | inr other ↦ key_read blob (key_at blob) asked refl (rw other at is)
]

key_plain : (given key : List ℕ) → authority_key_in given ≡ Ok key → IsPlain key
unfolding authority_key_in subject_in
key_plain given key is =
    let asked = bind_ok (in_fault Spec (in_fault specs.Key (subject_in given))) (λ (asked : Subject). unless_certified asked.plain asked.cert) key is in
    let subject = in_fault_ok specs.Key (subject_in given) asked.0 (in_fault_ok Spec (in_fault specs.Key (subject_in given)) asked.0 asked.1) in
    let line = bind_ok (in_fault keys.Line (line_at given)) (λ (line : KeyLine). in_fault keys.Subject (subject_of line.blob)) asked.0 subject in
    let bare = not_certified asked.0.plain asked.0.cert key asked.2 in
    subst IsPlain bare.1 (subject_plain line.0.blob asked.0 (in_fault_ok keys.Subject (subject_of line.0.blob) asked.0 line.2) bare.0)

bare_plain : (given key : List ℕ) → bare_authority_in given ≡ Ok key → IsPlain key
bare_plain given key is = elim (cases_Bool (begins_with_key given)) [
  | inl begins ↦ key_plain given key (rw begins at is)
  | inr other ↦ absurd (let none = rw other at is in cc none)
]

-- A line declares a name that it can give, and no other key has it.
declared : (names : NamedKeys) (name given key : List ℕ) → declares names name given ≡ Ok key → CanBeNamed name key × (can_have names name key ≡ true)
declared names name given key is = elim (cases_Bool (is_name name)) [
  | inl named ↦
      let read = bind_ok (bare_authority_in given) (unless_other names name) key (rw named at is) in
      let free = passed_ok (can_have names name read.0) OtherKey read.0 key read.2 in
      let plain = bare_plain given read.0 read.1 in
      subst (λ (k : List ℕ). CanBeNamed name k × (can_have names name k ≡ true)) free.1 (record { named = named; key = plain.0; read = plain.1 }, free.0)
  | inr other ↦ absurd (let none = rw other at is in cc none)
]

-- ---- what a line says

-- The names after a line can have been given by lines.
abbrev Keeps : Standing → Result Saying TextCause → Type 0
Keeps standing (Ok saying) = AreDeclared (standing_after saying standing).names
Keeps standing (Err cause) = Unit {0}

module _ (standing : Standing) (are : AreDeclared standing.names) where
  under_keeps : (read : Result Entry TextCause) → Keeps standing (under_says read)
  under_keeps (Ok entry) = are
  under_keeps (Err cause) = tt

  names_keep : (read : Result Entry TextCause) → Keeps standing (names_says read)
  names_keep (Ok entry) = are
  names_keep (Err cause) = tt

  current_keeps : (read : Result (List ℕ) TextCause) → Keeps standing (current_says read)
  current_keeps (Ok authority) = are
  current_keeps (Err cause) = tt

  word_keeps : (line given : List ℕ) (word : Word) → Keeps standing (word_says standing.current line word given)
  word_keeps line given words.Authority = current_keeps (authority_in given)
  word_keeps line given words.AuthorityBlob = current_keeps (authority_blob_in given)
  word_keeps line given words.Serial = under_keeps (serial_entry standing.current given)
  word_keeps line given words.Id = under_keeps (id_entry standing.current line given)
  word_keeps line given words.IdHex = under_keeps (id_hex_entry standing.current given)
  word_keeps line given words.Key = names_keep (keyed_entry directives.Key given)
  word_keeps line given words.KeyBlob = names_keep (key_blob_entry given)
  word_keeps line given words.Sha1 = names_keep (keyed_entry directives.Sha1 given)
  word_keeps line given words.Sha256 = names_keep (keyed_entry directives.Sha256 given)
  word_keeps line given words.Hash = names_keep (hash_entry given)

  name_keeps : (name given : List ℕ) (read : Result (List ℕ) TextCause) → declares standing.names name given ≡ read → Keeps standing (name_says name read)
  name_keeps name given (Ok key) is = let can = declared standing.names name given key is in still_declared standing.names name key can.0 can.1 are
  name_keeps name given (Err cause) is = tt

  mark_keeps : (line name rest : List ℕ) (given : Option (List ℕ)) → Keeps standing (mark_with standing.names line name rest given)
  mark_keeps line name rest (Some given) = name_keeps name given (declares standing.names name given) refl
  mark_keeps line name rest None = under_keeps (marked_entry standing.names line name (order_in (after_blanks rest)))

  unmarked_keeps : (line content : List ℕ) (mark : Option Mark) → Keeps standing (unmarked_says standing line content mark)
  unmarked_keeps line content (Some mark) = mark_keeps line mark.name mark.rest (given_behind mark.rest)
  unmarked_keeps line [] None = are
  unmarked_keeps line (byte ∷ content) None = names_keep (bare_key_entry (byte ∷ content))

  order_keeps : (line content : List ℕ) (order : Option Order) → Keeps standing (order_says standing line content order)
  order_keeps line content None = unmarked_keeps line content (mark_in content)
  order_keeps line content (Some order) = word_keeps line order.given order.word

  content_keeps : (line content : List ℕ) → Keeps standing (content_says standing line content)
  unfolding content_says
  content_keeps line content = order_keeps line content (order_in content)

  over_keeps : (over : Bool) (says : Result Saying TextCause) → Keeps standing says → Keeps standing (unless_over over says)
  over_keeps true (Ok saying) keeps = keeps
  over_keeps false (Ok saying) keeps = keeps
  over_keeps over (Err cause) keeps = tt

  until_keeps : (line content : List ℕ) (behind : Option (List ℕ)) → Keeps standing (until_says standing line content behind)
  until_keeps line content None = elim (cases_Bool (is_misplaced line content)) [
    | inl misplaced ↦ rw misplaced tt
    | inr other ↦ rw other (content_keeps line content)
  ]
  until_keeps line content (Some behind) = go (last_day behind)
    where
      go : (day : Option ℤ) → Keeps standing (ending_says standing line (dated_content behind) day)
      go None = tt
      go (Some day) = elim (cases_Bool (can_end (named_in (dated_content behind)))) [
        | inl ends ↦ rw ends (over_keeps (is_over standing.today day) (content_says standing line (dated_content behind)) (content_keeps line (dated_content behind)))
        | inr never ↦ rw never tt
      ]

  line_keeps : (line : List ℕ) → Keeps standing (line_says standing line)
  unfolding line_says
  line_keeps line = until_keeps line (bare_line line) (until_in (bare_line line))

-- ---- lines

entry_keeps : (entry : Option Entry) (lines : LineEntries) → AreDeclared lines.standing.names → AreDeclared (with_entry entry lines).standing.names
entry_keeps None lines are = are
entry_keeps (Some entry) lines are = are

later_keeps : (number : ℕ) (standing : Standing) (says : Result Saying TextCause) (later : Standing → LineEntries) → AreDeclared standing.names
    → ((after : Standing) → AreDeclared after.names → AreDeclared (later after).standing.names) → Keeps standing says
    → AreDeclared (before_later number standing says later).standing.names
later_keeps number standing (Ok saying) later are each keeps =
    let after = standing_after saying standing in
    entry_keeps (entry_said saying) (later after) (each after keeps)
later_keeps number standing (Err cause) later are each keeps = are

lines_keep : (standing : Standing) (number : ℕ) (lines : List (List ℕ)) → AreDeclared standing.names → AreDeclared (lines_from standing number lines).standing.names
lines_keep standing number [] are = are
lines_keep standing number (line ∷ lines) are =
    later_keeps number standing (line_says standing line) (λ after. lines_from after (number + 1) lines) are (λ after. lines_keep after (number + 1) lines) (line_keeps standing are line)

pub text_keeps : (standing : Standing) (text : List ℕ) → AreDeclared standing.names → AreDeclared (lines_with standing text).standing.names
unfolding lines_with
text_keeps standing text are = lines_keep (beginning standing) 1 (slice_split is_newline text) are

-- ---- texts

given_standing : (name bytes : List ℕ) (lines : LineEntries) (fault : Option TextFault) (read : TextEntries) → unless_fault name bytes lines fault ≡ Ok read → lines.standing ≡ read.standing
given_standing name bytes lines None read is =
    let same : record { entries = lines.entries; standing = lines.standing } ≡ read = cc in ap (λ (given : TextEntries). given.standing) same
given_standing name bytes lines (Some fault) read is = absurd cc

one_keeps : (standing : Standing) (text : Text) (read : TextEntries) → AreDeclared standing.names → text_from standing text ≡ Ok read → AreDeclared read.standing.names
unfolding text_from
one_keeps standing text read are is =
    let bytes = bind_ok (in_fault (unread text.name) text.content) (bytes_from standing text.name) read is in
    let lines : LineEntries = lines_with standing bytes.0 in
    subst (λ (after : Standing). AreDeclared after.names) (given_standing text.name bytes.0 lines lines.fault read bytes.2) (text_keeps standing bytes.0 are)

pub texts_keep : (standing : Standing) (texts : List Text) (read : TextEntries) → AreDeclared standing.names → texts_from standing texts ≡ Ok read → AreDeclared read.standing.names
texts_keep standing [] read are is =
    let same : record { entries = []; standing = standing } ≡ read = cc in subst (λ (given : TextEntries). AreDeclared given.standing.names) same are
texts_keep standing (text ∷ texts) read are is =
    let both = λ (first more : TextEntries). record more { entries = first.entries ++ more.entries } in
    let first = bind_ok (text_from standing text) (λ (given : TextEntries). texts_from given.standing texts >>= λ (more : TextEntries). Ok (both given more)) read is in
    let more = bind_ok (texts_from first.0.standing texts) (λ (later : TextEntries). Ok (both first.0 later)) read first.2 in
    let end = more.2 in
    let same : both first.0 more.0 ≡ read = cc in
    subst (λ (given : TextEntries). AreDeclared given.standing.names) same
    (texts_keep first.0.standing texts more.0 (one_keeps standing text first.0 are first.1) more.1)
