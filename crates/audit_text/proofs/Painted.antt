-- A line in colour is a plain line with one word in a colour.
use Rattle.std.specs.List.{AllByRecursion}
use Rattle.std.proofs.Common.{◌≡◌, ℕ, ◌==◌, ◌<◌, ◌^◌, Bool, true, false, List, [], ◌∷◌, ◌++◌, append_assoc, codes, decimal, if◌then◌else◌, length, nat_lt, Option, Some, None, refl, sym, ap, subst, ◌∙◌, arith}
use Rattle.ssh_wire.specs.Laws.{ReadsJust}
use Rattle.ssh_wire.specs.Reading.{string_at}
use Rattle.ssh_wire.specs.Wire.{IsBytes, string}
use Rattle.ssh_wire.specs.declared.fault.WireFault.{WireFault}
use Rattle.ssh_wire.specs.declared.fault.WireFault.TheVariants as wires
use Rattle.ssh_key.specs.KeyFault.{key_fault_text}
use Rattle.ssh_key.specs.Kind.{certificate_name, type_name}
use Rattle.ssh_key.specs.declared.fault.KeyFault.{KeyFault}
use Rattle.ssh_key.specs.declared.fault.KeyFault.TheVariants as keys
use Rattle.ssh_key.specs.declared.kind.Kind.{Kind}
use Rattle.ssh_key.specs.declared.kind.Kind.TheVariants as kinds
use Rattle.ssh_wire.specs.Fault.{fault_text}
use Rattle.ssh_cert.specs.CertFault.{cert_fault_text}
use Rattle.ssh_cert.specs.SubjectFault.{subject_fault_text}
use Rattle.ssh_cert.specs.SubjectReading.{IsSubject, certified, plain_key}
use Rattle.ssh_cert.proofs.Certs.{opening_spelled, serial_fits}
use Rattle.ssh_cert.specs.declared.fault.CertFault.{CertFault}
use Rattle.ssh_cert.specs.declared.fault.CertFault.TheVariants as certs
use Rattle.ssh_cert.specs.declared.subject_fault.SubjectFault.{SubjectFault}
use Rattle.ssh_cert.specs.declared.subject_fault.SubjectFault.TheVariants as subjects
use Rattle.key_text.specs.PrivateFault.{private_fault_text}
use Rattle.key_text.specs.declared.line_fault.LineFault.{LineFault}
use Rattle.key_text.specs.declared.line_fault.LineFault.TheVariants as lines
use Rattle.key_text.specs.declared.private_fault.PrivateFault.{PrivateFault}
use Rattle.key_text.specs.declared.private_fault.PrivateFault.TheVariants as privates
use Rattle.krl_types.specs.Subject.{CertNames, Subject}
use Rattle.krl_fingerprints.specs.declared.keys_by.KeysBy.{KeysBy}
use Rattle.krl_fingerprints.specs.declared.keys_by.KeysBy.TheVariants.{Blob, Fingerprint}
use Rattle.std.specs.List.{flat_map}
use Rattle.krl_entries.specs.Reasons.{any_reason, every_reason, has_reason}
use Rattle.krl_entries.specs.declared.reasons.Reason.{Reason}
use Rattle.krl_entries.specs.declared.reasons.Reason.TheVariants as reasons
use Rattle.krl_entries.specs.declared.reasons.Reasons.{Reasons}
use Rattle.audit_text.specs.Colour.{HasNoEscape, IsCount, IsPainted, in_colour, painted, verdict_word, word_text}
use Rattle.audit_text.specs.More.{are_more, kind_mark, kind_word, more_line, more_words}
use Rattle.audit_text.specs.Answer.{Answer, HaveNumbers}
use Rattle.audit_text.specs.Place.{HasNumbers, Place, line_place}
use Rattle.audit_text.specs.Same.{same_line}
use Rattle.audit_text.specs.Print.{Spelled, authority_words, print_by, spelled_by}
use Rattle.audit_text.specs.Text.{column_text, comment_words, entry_line, explained_if, explained_text, key_line, key_text, key_words, label_text, number_text, unnamed_line, location_text, of_authority, reason_parts, reason_words, reasons_text, type_of, unread_line}
use Rattle.line_pieces.specs.Visible.{visible}
use Rattle.text_index.specs.Explaining.{Explained}
use Rattle.text_index.specs.NamingLines.{Line}
use Rattle.audit_lines.specs.Why.{refusal_why, why_text}
use Rattle.run_faults.specs.Causes.{line_words}
use Rattle.audit_text.specs.declared.line_kind.LineKind.{LineKind}
use Rattle.audit_text.specs.declared.line_kind.LineKind.TheVariants as line_kinds
use Rattle.audit_lines.specs.declared.why.Refusal.{Refusal}
use Rattle.audit_lines.specs.declared.why.Refusal.TheVariants as refusals
use Rattle.audit_lines.specs.declared.why.Why.{Why}
use Rattle.audit_lines.specs.declared.why.Why.TheVariants as whys
use Rattle.keyed_lines.specs.declared.key_cause.KeyCause.TheVariants as key_causes
use Rattle.audit_text.proofs.Escapes.{decimal_free, fingerprint_free, free_append, free_drop, printed_free, visible_free}

-- ---- one word in a colour

moved : (location a word b tail : List ℕ) → location ++ ((a ++ (word ++ b)) ++ tail) ≡ (location ++ a) ++ (word ++ (b ++ tail))
moved location a word b tail =
    ap (λ (t : List ℕ). location ++ t) (append_assoc a (word ++ b) tail ∙ ap (λ (t : List ℕ). a ++ t) (append_assoc word b tail))
    ∙ sym (append_assoc location a (word ++ (b ++ tail)))

one_word : (location tail colour word : List ℕ) → HasNoEscape location → HasNoEscape word → HasNoEscape tail
    → IsPainted (location ++ (word_text false colour word ++ tail)) (location ++ (word_text true colour word ++ tail))
unfolding painted
one_word location tail colour word before free after = record {
  front = location ++ codes ": ";
  colour = colour;
  word = word;
  rest = codes ": " ++ tail;
  plain_is = moved location (codes ": ") word (codes ": ") tail;
  coloured_is = moved location (codes ": ") (in_colour colour word) (codes ": ") tail;
  no_escape = free_append location ((codes ": " ++ (word ++ codes ": ")) ++ tail) before
      (free_append (codes ": " ++ (word ++ codes ": ")) tail (free_append (codes ": ") (word ++ codes ": ") refl (free_append word (codes ": ") free refl)) after);
}

verdict_painted : (location tail : List ℕ) (revoked : Bool) → HasNoEscape location → HasNoEscape tail
    → IsPainted (location ++ (verdict_word false revoked ++ tail)) (location ++ (verdict_word true revoked ++ tail))
verdict_painted location tail true before after = one_word location tail (codes "31") (codes "revoked") before refl after
verdict_painted location tail false before after = one_word location tail (codes "32") (codes "ok") before refl after

-- ---- the location, and the comment

label_free : (label : Option (List ℕ)) → HasNoEscape (label_text label)
label_free None = refl
label_free (Some label) = visible_free false label

column_free : (column : ℕ) (some : Bool) → column < 2 ^ 64 → HasNoEscape (if some then codes ":" ++ decimal column else [])
column_free column true small = free_append (codes ":") (decimal column) refl (decimal_free column small)
column_free column false small = refl

number_free : (number column : ℕ) (some : Bool) → number < 2 ^ 64 → column < 2 ^ 64 → HasNoEscape (if some then codes ":" ++ (decimal number ++ column_text column) else [])
number_free number column true small narrow =
    free_append (codes ":") (decimal number ++ column_text column) refl
    (free_append (decimal number) (column_text column) (decimal_free number small) (column_free column (nat_lt 0 column) narrow))
number_free number column false small narrow = refl

place_free : (place : Place) → HasNumbers place → HasNoEscape (location_text place)
place_free place has =
    free_append (label_text place.label) (visible false place.name ++ number_text place.number place.column) (label_free place.label)
    (free_append (visible false place.name) (number_text place.number place.column) (visible_free false place.name)
    (number_free place.number place.column (nat_lt 0 place.number) has.number has.column))

comment_free : (comment : List ℕ) → HasNoEscape (comment_words comment)
comment_free [] = refl
comment_free (byte ∷ bytes) = free_append (codes ": ") (visible false (byte ∷ bytes)) refl (visible_free false (byte ∷ bytes))

-- ---- reasons

three_free : (a b c : List ℕ) → HasNoEscape a → HasNoEscape b → HasNoEscape c → HasNoEscape (a ++ (b ++ c))
three_free a b c first second third = free_append a (b ++ c) first (free_append b c second third)

print_free : (by : KeysBy) (key : List ℕ) → HasNoEscape (print_by by key)
print_free Blob key = fingerprint_free key
print_free Fingerprint key = printed_free key

words_free : (by : KeysBy) (key : List ℕ) (name : Option (List ℕ)) → HasNoEscape (authority_words by key name)
words_free by key None = print_free by key
words_free by key (Some name) = visible_free false name

authority_free : (spelled : Spelled) (authority : List ℕ) → HasNoEscape (of_authority spelled authority)
authority_free spelled authority =
    free_append (codes " of CA ") (authority_words spelled.by authority spelled.authority) refl (words_free spelled.by authority spelled.authority)

-- the serial number of a certificate has eight bytes
abbrev IsSmall : Option CertNames → Type 0
IsSmall None = Unit {0}
IsSmall (Some cert) = cert.serial < 2 ^ 64

reason_free : (spelled : Spelled) (reason : Reason) (cert : Option CertNames) → IsSmall cert → HasNoEscape (reason_words spelled reason cert)
reason_free spelled reasons.Key cert small = refl
reason_free spelled reasons.KeySha1 cert small = refl
reason_free spelled reasons.KeySha256 cert small = refl
reason_free spelled reason None small = none reason
  where
    none : (reason : Reason) → HasNoEscape (reason_words spelled reason None)
    none reasons.Key = refl
    none reasons.KeySha1 = refl
    none reasons.KeySha256 = refl
    none other = refl
reason_free spelled reasons.Authority (Some cert) small = refl
reason_free spelled reasons.AuthoritySha1 (Some cert) small = refl
reason_free spelled reasons.AuthoritySha256 (Some cert) small = refl
reason_free spelled reasons.Serial (Some cert) small =
    three_free (codes ", by serial ") (decimal cert.serial) (of_authority spelled cert.authority) refl (decimal_free cert.serial small) (authority_free spelled cert.authority)
reason_free spelled reasons.SerialOfAll (Some cert) small =
    three_free (codes ", by serial ") (decimal cert.serial) (codes " of all CAs") refl (decimal_free cert.serial small) refl
reason_free spelled reasons.KeyId (Some cert) small =
    three_free (codes ", by key ID \"") (visible true cert.key_id) (codes "\"" ++ of_authority spelled cert.authority) refl (visible_free true cert.key_id)
    (free_append (codes "\"") (of_authority spelled cert.authority) refl (authority_free spelled cert.authority))
reason_free spelled reasons.KeyIdOfAll (Some cert) small =
    three_free (codes ", by key ID \"") (visible true cert.key_id) (codes "\" of all CAs") refl (visible_free true cert.key_id) refl

if_free : (said : Bool) (words : List ℕ) → HasNoEscape words → HasNoEscape (if said then words else [])
if_free true words free = free
if_free false words free = refl

parts_free : (spelled : Spelled) (asked : Subject) (all : Reasons) → IsSmall asked.cert → (few : List Reason) → HasNoEscape (flat_map (λ reason. if has_reason all reason then reason_words spelled reason asked.cert else []) few)
parts_free spelled asked all small [] = refl
parts_free spelled asked all small (reason ∷ few) =
    free_append (if has_reason all reason then reason_words spelled reason asked.cert else []) (flat_map (λ reason. if has_reason all reason then reason_words spelled reason asked.cert else []) few)
    (if_free (has_reason all reason) (reason_words spelled reason asked.cert) (reason_free spelled reason asked.cert small)) (parts_free spelled asked all small few)

reasons_free : (spelled : Spelled) (asked : Subject) (all : Reasons) → IsSmall asked.cert → HasNoEscape (reasons_text spelled asked all)
reasons_free spelled asked all small = free_drop (reason_parts spelled asked all) (parts_free spelled asked all small every_reason)

-- ---- the lines that explain

entry_free : (line : Line) → line.number < 2 ^ 64 → HasNoEscape (entry_line line)
entry_free line small =
    three_free (codes "  ") (location_text (line_place line.file line.number)) (codes ": " ++ (visible false line.text ++ 10 ∷ [])) refl
    (place_free (line_place line.file line.number) (record { number = small; column = omega arith }))
    (three_free (codes ": ") (visible false line.text) (10 ∷ []) refl (visible_free false line.text) refl)

entries_free : (lines : List Line) → AllByRecursion (λ line. line.number < 2 ^ 64) lines → HasNoEscape (flat_map entry_line lines)
entries_free [] small = refl
entries_free (line ∷ lines) small = free_append (entry_line line) (flat_map entry_line lines) (entry_free line small.0) (entries_free lines small.1)

unnamed_free : (spelled : Spelled) (asked : Subject) (unnamed : Reasons) → IsSmall asked.cert → HasNoEscape (unnamed_line spelled asked unnamed)
unnamed_free spelled asked unnamed small = three_free (codes "  no line of the texts names it") (reasons_text spelled asked unnamed) (10 ∷ []) refl (reasons_free spelled asked unnamed small) refl

explained_free : (by : KeysBy) (asked : Subject) (explained : Option Explained) → IsSmall asked.cert → HaveNumbers explained → HasNoEscape (explained_if by asked explained)
unfolding explained_text
explained_free by asked None small numbers = refl
explained_free by asked (Some explained) small numbers =
    let spelled = spelled_by by (Some explained) in
    free_append (flat_map entry_line explained.lines) (if any_reason explained.unnamed then unnamed_line spelled asked explained.unnamed else []) (entries_free explained.lines numbers)
    (if_free (any_reason explained.unnamed) (unnamed_line spelled asked explained.unnamed) (unnamed_free spelled asked explained.unnamed small))

-- what follows a line in colour has none
followed : (plain coloured tail : List ℕ) → IsPainted plain coloured → HasNoEscape tail → IsPainted (plain ++ tail) (coloured ++ tail)
followed plain coloured tail is free = record {
  front = is.front;
  colour = is.colour;
  word = is.word;
  rest = is.rest ++ tail;
  plain_is = ap (λ (t : List ℕ). t ++ tail) is.plain_is ∙ append_assoc is.front (is.word ++ is.rest) tail ∙ ap (λ (t : List ℕ). is.front ++ t) (append_assoc is.word is.rest tail);
  coloured_is = ap (λ (t : List ℕ). t ++ tail) is.coloured_is ∙ append_assoc is.front (in_colour is.colour is.word ++ is.rest) tail
      ∙ ap (λ (t : List ℕ). is.front ++ t) (append_assoc (in_colour is.colour is.word) is.rest tail);
  no_escape = free_append plain tail is.no_escape free;
}

-- ---- the type of a key

abbrev IsFreeName : List ℕ → Type 0
IsFreeName name = HasNoEscape name × (length name < 2 ^ 32)

names_free : (kind : Kind) → IsFreeName (type_name kind) × IsFreeName (certificate_name kind)
names_free kinds.Rsa = ((refl, omega arith), (refl, omega arith))
names_free kinds.Dsa = ((refl, omega arith), (refl, omega arith))
names_free kinds.Ecdsa256 = ((refl, omega arith), (refl, omega arith))
names_free kinds.Ecdsa384 = ((refl, omega arith), (refl, omega arith))
names_free kinds.Ecdsa521 = ((refl, omega arith), (refl, omega arith))
names_free kinds.Ed25519 = ((refl, omega arith), (refl, omega arith))
names_free kinds.EcdsaSk = ((refl, omega arith), (refl, omega arith))
names_free kinds.Ed25519Sk = ((refl, omega arith), (refl, omega arith))

small_serial : (blob : List ℕ) (asked : Subject) → IsSubject blob asked → IsSmall asked.cert
small_serial blob asked (plain_key key is same) = subst (λ (s : Subject). IsSmall s.cert) (sym same) tt
small_serial blob asked (certified certificate is same) = subst (λ (s : Subject). IsSmall s.cert) (sym same) (serial_fits blob certificate is)

module _ (reads : ReadsJust string_at string (λ (text : List ℕ). length text < 2 ^ 32)) where
  named_free : (blob name rest : List ℕ) → IsBytes blob → blob ≡ string name ++ rest → IsFreeName name → HasNoEscape (type_of blob)
  unfolding type_of
  named_free blob name rest bytes is free = rw ((reads blob name rest bytes).1 (is, free.1)) free.0

  type_free : (blob : List ℕ) (asked : Subject) → IsBytes blob → IsSubject blob asked → HasNoEscape (type_of blob)
  type_free blob asked bytes (plain_key key is same) = named_free blob (type_name key.kind) key.fields bytes is.spelled (names_free key.kind).0
  type_free blob asked bytes (certified certificate is same) =
      let name : List ℕ = certificate_name certificate.key.kind in
      named_free blob name (string certificate.nonce ++ is.fields) bytes (opening_spelled blob name certificate.nonce is.fields is.opening) (names_free certificate.key.kind).1

  key_tail_free : (blob comment : List ℕ) (asked : Subject) (answer : Answer) → HasNoEscape (type_of blob) → IsSmall asked.cert
      → HasNoEscape (key_words blob asked ++ (reasons_text (spelled_by Blob answer.explained) asked answer.reasons ++ (comment_words comment ++ 10 ∷ [])))
  key_tail_free blob comment asked answer typed small =
      let spelled = spelled_by Blob answer.explained in
      three_free (key_words blob asked) (reasons_text spelled asked answer.reasons) (comment_words comment ++ 10 ∷ [])
      (three_free (type_of blob) (codes " ") (print_by Blob asked.plain) typed refl (print_free Blob asked.plain)) (reasons_free spelled asked answer.reasons small)
      (free_append (comment_words comment) (10 ∷ []) (comment_free comment) refl)

  line_painted : (place : Place) (blob comment : List ℕ) (asked : Subject) (answer : Answer) → HasNumbers place → IsBytes blob → IsSubject blob asked
      → IsPainted (key_line false place blob comment asked answer) (key_line true place blob comment asked answer)
  line_painted place blob comment asked answer has bytes is =
      verdict_painted (location_text place) (key_words blob asked ++ (reasons_text (spelled_by Blob answer.explained) asked answer.reasons ++ (comment_words comment ++ 10 ∷ []))) (any_reason answer.reasons)
      (place_free place has) (key_tail_free blob comment asked answer (type_free blob asked bytes is) (small_serial blob asked is))

  pub key_painted : (place : Place) (blob comment : List ℕ) (asked : Subject) (answer : Answer) → HasNumbers place → HaveNumbers answer.explained → IsBytes blob → IsSubject blob asked
      → IsPainted (key_text false place blob comment asked answer) (key_text true place blob comment asked answer)
  key_painted place blob comment asked answer has numbers bytes is =
      followed (key_line false place blob comment asked answer) (key_line true place blob comment asked answer) (explained_if Blob asked answer.explained)
      (line_painted place blob comment asked answer has bytes is) (explained_free Blob asked answer.explained (small_serial blob asked is) numbers)

-- ---- why a line or a file is not read

wire_free : (fault : WireFault) → HasNoEscape (fault_text fault)
wire_free wires.Short = refl
wire_free wires.Negative = refl
wire_free wires.NotShortest = refl

key_fault_free : (fault : KeyFault) → HasNoEscape (key_fault_text fault)
key_fault_free (keys.Wire fault) = free_append (codes "key 1 Wire, ") (fault_text fault) refl (wire_free fault)
key_fault_free keys.UnknownType = refl
key_fault_free keys.Curve = refl
key_fault_free keys.Point = refl
key_fault_free keys.Length = refl
key_fault_free keys.Number = refl
key_fault_free keys.Trailing = refl
key_fault_free keys.TooLong = refl

cert_fault_free : (fault : CertFault) → HasNoEscape (cert_fault_text fault)
cert_fault_free certs.Wire = refl
cert_fault_free certs.UnknownType = refl
cert_fault_free (certs.Key fault) = free_append (codes "cert 3 Key, ") (key_fault_text fault) refl (key_fault_free fault)
cert_fault_free certs.CertType = refl
cert_fault_free certs.Options = refl
cert_fault_free certs.Principals = refl
cert_fault_free (certs.Authority fault) = free_append (codes "cert 7 Authority, ") (key_fault_text fault) refl (key_fault_free fault)
cert_fault_free certs.Signature = refl
cert_fault_free certs.Trailing = refl

subject_free : (fault : SubjectFault) → HasNoEscape (subject_fault_text fault)
subject_free (subjects.Key fault) = free_append (codes "subject 1 Key, ") (key_fault_text fault) refl (key_fault_free fault)
subject_free (subjects.Cert fault) = free_append (codes "subject 2 Cert, ") (cert_fault_text fault) refl (cert_fault_free fault)
subject_free subjects.NoMemory = refl

private_free : (fault : PrivateFault) → HasNoEscape (private_fault_text fault)
private_free privates.Armour = refl
private_free privates.Base64 = refl
private_free privates.Magic = refl
private_free privates.Encrypted = refl
private_free privates.KeyCount = refl
private_free privates.Check = refl
private_free (privates.Key fault) = free_append (codes "private 7 Key, ") (key_fault_text fault) refl (key_fault_free fault)
private_free privates.PublicDiffers = refl
private_free privates.Padding = refl
private_free privates.Trailing = refl
private_free (privates.Wire fault) = free_append (codes "private 11 Wire, ") (fault_text fault) refl (wire_free fault)
private_free privates.NoMemory = refl

line_free : (fault : LineFault) → HasNoEscape (line_words fault)
line_free lines.NoKey = refl
line_free lines.Base64 = refl
line_free lines.WordDiffers = refl
line_free lines.NoMemory = refl

refusal_free : (refusal : Refusal) → HasNoEscape (refusal_why refusal)
refusal_free refusals.Missing = refl
refusal_free refusals.Denied = refl
refusal_free refusals.Irregular = refl
refusal_free refusals.Loop = refl
refusal_free refusals.DirectoryLink = refl
refusal_free refusals.NoFile = refl
refusal_free refusals.LongName = refl
refusal_free refusals.Slow = refl
refusal_free refusals.Kernel = refl
refusal_free refusals.Open = refl
refusal_free refusals.Read = refl
refusal_free refusals.TooLong = refl
refusal_free refusals.NotAsked = refl
refusal_free refusals.Wildcards = refl

why_free : (why : Why) → IsCount why → HasNoEscape (why_text why)
why_free (whys.Key (key_causes.Line fault)) small = line_free fault
why_free (whys.Key (key_causes.Subject fault)) small = free_append (codes "the key is cut or misspelt: ") (subject_fault_text fault) refl (subject_free fault)
why_free whys.ZeroInId small = refl
why_free (whys.Private fault) small = free_append (codes "the private key file is cut or misspelt: ") (private_fault_text fault) refl (private_free fault)
why_free (whys.File refusal) small = refusal_free refusal
why_free (whys.NoKeys lines) small = three_free (codes "none of its ") (decimal lines) (codes " lines is a key") refl (decimal_free lines small) refl

pub unread_painted : (place : Place) (why : Why) → HasNumbers place → IsCount why → IsPainted (unread_line false place why) (unread_line true place why)
unread_painted place why has few =
    one_word (location_text place) (why_text why ++ 10 ∷ []) (codes "33") (codes "unread") (place_free place has) refl
    (free_append (why_text why) (10 ∷ []) (why_free why few) refl)

-- ---- lines that are only counted

are_more_free : (one : Bool) → HasNoEscape (are_more one)
are_more_free true = refl
are_more_free false = refl

kind_free : (kind : LineKind) → HasNoEscape (kind_word kind)
kind_free line_kinds.Empty = refl
kind_free line_kinds.Distrusted = refl
kind_free line_kinds.Fine = refl
kind_free line_kinds.Revoked = refl
kind_free line_kinds.Unread = refl

more_words_free : (kind : LineKind) (lines : ℕ) → lines < 2 ^ 64 → HasNoEscape (more_words kind lines)
more_words_free kind lines few =
    free_append (codes "and ") (decimal lines ++ (are_more (lines == 1) ++ kind_word kind)) refl
    (three_free (decimal lines) (are_more (lines == 1)) (kind_word kind) (decimal_free lines few) (are_more_free (lines == 1)) (kind_free kind))

kind_painted : (location tail : List ℕ) (kind : LineKind) → HasNoEscape location → HasNoEscape tail
    → IsPainted (location ++ (kind_mark false kind ++ tail)) (location ++ (kind_mark true kind ++ tail))
kind_painted location tail line_kinds.Empty before after = one_word location tail (codes "33") (codes "unread") before refl after
kind_painted location tail line_kinds.Distrusted before after = one_word location tail (codes "33") (codes "unread") before refl after
kind_painted location tail line_kinds.Fine before after = one_word location tail (codes "32") (codes "ok") before refl after
kind_painted location tail line_kinds.Revoked before after = one_word location tail (codes "31") (codes "revoked") before refl after
kind_painted location tail line_kinds.Unread before after = one_word location tail (codes "33") (codes "unread") before refl after

pub more_painted : (place : Place) (kind : LineKind) (lines : ℕ) → HasNumbers place → lines < 2 ^ 64 → IsPainted (more_line false place kind lines) (more_line true place kind lines)
more_painted place kind lines has few =
    kind_painted (location_text place) (more_words kind lines ++ 10 ∷ []) kind (place_free place has) (free_append (more_words kind lines) (10 ∷ []) (more_words_free kind lines few) refl)

-- ---- names of files that were audited before

pub same_free : (place : Place) → HasNumbers place → HasNoEscape (same_line place)
same_free place has = free_append (location_text place) (codes ": same: it was audited before\n") (place_free place has) refl
