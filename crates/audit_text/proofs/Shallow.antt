-- The objects of findings are nested three deep, and their numbers are counts.
use Rattle.std.specs.List.{AllByRecursion}
use Rattle.std.proofs.Common.{map, ℕ, ◌<◌, ◌^◌, ◌≤◌, Bool, true, false, List, [], ◌∷◌, ◌++◌, Option, None, Some, codes, nat_lt, if◌then◌else◌, arith}
use Rattle.key_text.specs.Marker.{marker_word}
use Rattle.key_text.specs.declared.marker.Marker.{Marker}
use Rattle.krl_types.specs.Subject.{CertNames, Subject}
use Rattle.krl_fingerprints.specs.declared.keys_by.KeysBy.{KeysBy}
use Rattle.krl_fingerprints.specs.declared.keys_by.KeysBy.TheVariants.{Blob}
use Rattle.audit_text.specs.Print.{Spelled, print_by, spelled_by}
use Rattle.std.specs.List.{flat_map}
use Rattle.krl_entries.specs.Reasons.{any_reason, every_reason, has_reason}
use Rattle.krl_entries.specs.declared.reasons.Reason.{Reason}
use Rattle.krl_entries.specs.declared.reasons.Reason.TheVariants as reasons
use Rattle.krl_entries.specs.declared.reasons.Reasons.{Reasons}
use Rattle.json.specs.Json.{Json, max_depth}
use Rattle.json.specs.Tree.{depth}
use Rattle.json_lines.specs.Field.{Field, number_field, text_field, word_field}
use Rattle.json_lines.proofs.Shallow.{FieldsFit, Fits, ValuesFit, array_fits, deeper, digits_fit, fields_fit, number_fits, object_fits, text_fits, values_fit, word_fits}
use Rattle.audit_text.specs.More.{kind_word, more_fields, more_object, more_words, why_more}
use Rattle.audit_text.specs.Objects.{all_authorities, authority_fields, by_value, cert_field, cert_fields, cert_names, column_fields, front_fields, front_word, id_field, id_value, key_fields, key_object, label_fields, line_fields, list_fields, location_fields, marker_fields, entry_value, explained_fields, number_fields}
use Rattle.audit_text.specs.Place.{HasNumbers, Place, line_place}
use Rattle.audit_text.specs.Objects.{name_fields, of_value, reason_value, reason_values, reasons_field, serial_field, serial_value, status_word, unread_object}
use Rattle.audit_lines.specs.FaultText.{why_fault, why_fields}
use Rattle.audit_lines.specs.Outcome.{Found}
use Rattle.audit_text.specs.Same.{same_fields, same_object}
use Rattle.audit_text.specs.Answer.{Answer, HaveNumbers}
use Rattle.audit_text.specs.Text.{type_of}
use Rattle.audit_lines.specs.Why.{why_text}
use Rattle.audit_text.specs.declared.line_kind.LineKind.{LineKind}
use Rattle.audit_text.specs.declared.line_kind.LineKind.TheVariants as kinds
use Rattle.audit_lines.specs.declared.why.Why.{Why}
use Rattle.text_index.specs.Explaining.{Explained}
use Rattle.text_index.specs.NamingLines.{Line}

-- ---- reasons

by_fits : (by : List ℕ) → Fits 1 (by_value by [])
by_fits by = object_fits 0 (word_field (codes "by") by ∷ []) (word_fits 0 (codes "by") by, tt)

of_fits : (of : List ℕ) → Fits 1 (of_value of)
of_fits of = object_fits 0 (word_field (codes "by") (codes "authority") ∷ word_field (codes "of") of ∷ []) (word_fits 0 (codes "by") (codes "authority"), (word_fits 0 (codes "of") of, tt))

named_fits : (by : List ℕ) (name : Field) (authority : List Field) → Fits 0 name.value → FieldsFit 0 authority → Fits 1 (by_value by (name ∷ authority))
named_fits by name authority fit fits = object_fits 0 (word_field (codes "by") by ∷ name ∷ authority) (word_fits 0 (codes "by") by, (fit, fits))

serial_fits : (serial : ℕ) (authority : List Field) → FieldsFit 0 authority → Fits 1 (serial_value serial authority)
serial_fits serial authority fits = named_fits (codes "serial") (serial_field serial) authority (digits_fit 0 (codes "serial") serial) fits

id_fits : (id : List ℕ) (authority : List Field) → FieldsFit 0 authority → Fits 1 (id_value id authority)
id_fits id authority fits = named_fits (codes "id") (id_field id) authority (text_fits 0 (codes "id") id) fits

name_fits : (name : Option (List ℕ)) → FieldsFit 0 (name_fields name)
name_fits None = tt
name_fits (Some name) = (text_fits 0 (codes "name") name, tt)

authority_fit : (spelled : Spelled) (authority : List ℕ) → FieldsFit 0 (authority_fields spelled authority)
authority_fit spelled authority = (text_fits 0 (codes "authority") (print_by spelled.by authority), name_fits spelled.authority)

all_fit : FieldsFit 0 all_authorities
all_fit = (text_fits 0 (codes "authority") (codes "all"), tt)

reason_fits : (spelled : Spelled) (reason : Reason) (cert : Option CertNames) → ValuesFit 1 (reason_value spelled reason cert)
reason_fits spelled reasons.Key cert = (by_fits (codes "key"), tt)
reason_fits spelled reasons.KeySha1 cert = (by_fits (codes "sha1"), tt)
reason_fits spelled reasons.KeySha256 cert = (by_fits (codes "sha256"), tt)
reason_fits spelled reason None = none reason
  where
    none : (reason : Reason) → ValuesFit 1 (reason_value spelled reason None)
    none reasons.Key = (by_fits (codes "key"), tt)
    none reasons.KeySha1 = (by_fits (codes "sha1"), tt)
    none reasons.KeySha256 = (by_fits (codes "sha256"), tt)
    none other = tt
reason_fits spelled reasons.Authority (Some cert) = (of_fits (codes "key"), tt)
reason_fits spelled reasons.AuthoritySha1 (Some cert) = (of_fits (codes "sha1"), tt)
reason_fits spelled reasons.AuthoritySha256 (Some cert) = (of_fits (codes "sha256"), tt)
reason_fits spelled reasons.Serial (Some cert) = (serial_fits cert.serial (authority_fields spelled cert.authority) (authority_fit spelled cert.authority), tt)
reason_fits spelled reasons.SerialOfAll (Some cert) = (serial_fits cert.serial all_authorities all_fit, tt)
reason_fits spelled reasons.KeyId (Some cert) = (id_fits cert.key_id (authority_fields spelled cert.authority) (authority_fit spelled cert.authority), tt)
reason_fits spelled reasons.KeyIdOfAll (Some cert) = (id_fits cert.key_id all_authorities all_fit, tt)

if_fits : (said : Bool) (values : List Json) → ValuesFit 1 values → ValuesFit 1 (if said then values else [])
if_fits true values fit = fit
if_fits false values fit = tt

few_fit : (spelled : Spelled) (asked : Subject) (all : Reasons) (few : List Reason) → ValuesFit 1 (flat_map (λ reason. if has_reason all reason then reason_value spelled reason asked.cert else []) few)
few_fit spelled asked all [] = tt
few_fit spelled asked all (reason ∷ few) =
    values_fit 1 (if has_reason all reason then reason_value spelled reason asked.cert else []) (flat_map (λ reason. if has_reason all reason then reason_value spelled reason asked.cert else []) few)
    (if_fits (has_reason all reason) (reason_value spelled reason asked.cert) (reason_fits spelled reason asked.cert)) (few_fit spelled asked all few)

reasons_fit : (spelled : Spelled) (asked : Subject) (all : Reasons) → Fits 2 (reasons_field spelled asked all).value
reasons_fit spelled asked all = array_fits 1 (reason_values spelled asked all) (few_fit spelled asked all every_reason)

-- ---- fields

column_fits : (deep column : ℕ) (test : Bool) → column < 2 ^ 64 → FieldsFit deep (if test then number_field (codes "column") column ∷ [] else [])
column_fits deep column true small = (number_fits deep (codes "column") column small, tt)
column_fits deep column false small = tt

number_fit : (deep number column : ℕ) (test : Bool) → number < 2 ^ 64 → column < 2 ^ 64 → FieldsFit deep (if test then number_field (codes "line") number ∷ column_fields column else [])
number_fit deep number column true small narrow = (number_fits deep (codes "line") number small, column_fits deep column (nat_lt 0 column) narrow)
number_fit deep number column false small narrow = tt

pub label_fits : (deep : ℕ) (label : Option (List ℕ)) → FieldsFit deep (label_fields label)
label_fits deep None = tt
label_fits deep (Some label) = (word_fits deep (codes "label") label, tt)

pub place_fits : (deep : ℕ) (place : Place) → HasNumbers place → FieldsFit deep (location_fields place)
place_fits deep place has =
    fields_fit deep (label_fields place.label) (word_field (codes "file") place.name ∷ number_fields place.number place.column) (label_fits deep place.label)
    (word_fits deep (codes "file") place.name, number_fit deep place.number place.column (nat_lt 0 place.number) has.number has.column)

-- a line of a text has its number, and no column
numbers_of_line : (line : Line) → line.number < 2 ^ 64 → HasNumbers (line_place line.file line.number)
numbers_of_line line small = record { number = small; column = omega arith }

entry_fits : (line : Line) → line.number < 2 ^ 64 → Fits 1 (entry_value line)
entry_fits line small =
    object_fits 0 (location_fields (line_place line.file line.number) ++ text_field (codes "text") line.text ∷ [])
    (fields_fit 0 (location_fields (line_place line.file line.number)) (text_field (codes "text") line.text ∷ []) (place_fits 0 (line_place line.file line.number) (numbers_of_line line small)) (text_fits 0 (codes "text") line.text, tt))

entries_fit : (lines : List Line) → AllByRecursion (λ line. line.number < 2 ^ 64) lines → ValuesFit 1 (map entry_value lines)
entries_fit [] small = tt
entries_fit (line ∷ lines) small = (entry_fits line small.0, entries_fit lines small.1)

explained_fit : (by : KeysBy) (asked : Subject) (explained : Option Explained) → HaveNumbers explained → FieldsFit 2 (explained_fields by asked explained)
explained_fit by asked None small = tt
explained_fit by asked (Some explained) small = (array_fits 1 (map entry_value explained.lines) (entries_fit explained.lines small), (reasons_fit (spelled_by by (Some explained)) asked explained.unnamed, tt))

key_fits : (blob comment : List ℕ) (asked : Subject) (all : Reasons) → FieldsFit 2 (key_fields blob comment asked all)
key_fits blob comment asked all =
    (word_fits 2 (codes "status") (status_word (any_reason all)), (text_fits 2 (codes "type") (type_of blob), (text_fits 2 (codes "fingerprint") (print_by Blob asked.plain), (text_fits 2 (codes "comment") comment, tt))))

marker_fits : (marker : Option Marker) → FieldsFit 2 (marker_fields marker)
marker_fits None = tt
marker_fits (Some marker) = (word_fits 2 (codes "marker") (marker_word marker), tt)

front_fits : (hosts : Bool) (front : List ℕ) → FieldsFit 2 (front_fields hosts front)
front_fits hosts [] = tt
front_fits hosts (byte ∷ bytes) = (text_fits 2 (front_word hosts) (byte ∷ bytes), tt)

names_fit : (by : KeysBy) (cert : CertNames) → FieldsFit 0 (cert_names by cert)
names_fit by cert = (digits_fit 0 (codes "serial") cert.serial, (text_fits 0 (codes "id") cert.key_id, (text_fits 0 (codes "authority") (print_by by cert.authority), tt)))

cert_fits : (by : KeysBy) (cert : Option CertNames) → FieldsFit 2 (cert_fields by cert)
cert_fits by None = tt
cert_fits by (Some cert) = (deeper 1 2 (cert_field by cert).value (omega arith) (object_fits 0 (cert_names by cert) (names_fit by cert)), tt)

pub list_fits : (by : KeysBy) (asked : Subject) (answer : Answer) → HaveNumbers answer.explained → FieldsFit 2 (list_fields by asked answer)
list_fits by asked answer small =
    fields_fit 2 (cert_fields by asked.cert) (reasons_field (spelled_by by answer.explained) asked answer.reasons ∷ explained_fields by asked answer.explained) (cert_fits by asked.cert)
    (reasons_fit (spelled_by by answer.explained) asked answer.reasons, explained_fit by asked answer.explained small)

-- ---- objects

pub key_object_fits : (place : Place) (found : Found) (answer : Answer) → HasNumbers place → HaveNumbers answer.explained → Fits 3 (key_object place found answer)
key_object_fits place found answer has numbers =
    let location = location_fields place in
    let key = key_fields found.blob found.comment found.asked answer.reasons in
    let line = line_fields found.marker found.hosts found.front in
    let list = list_fields Blob found.asked answer in
    let line_fit = fields_fit 2 (marker_fields found.marker) (front_fields found.hosts found.front) (marker_fits found.marker) (front_fits found.hosts found.front) in
    object_fits 2 (location ++ (key ++ (line ++ list)))
    (fields_fit 2 location (key ++ (line ++ list)) (place_fits 2 place has)
    (fields_fit 2 key (line ++ list) (key_fits found.blob found.comment found.asked answer.reasons) (fields_fit 2 line list line_fit (list_fits Blob found.asked answer numbers))))

pub unread_object_fits : (place : Place) (why : Why) → HasNumbers place → Fits 3 (unread_object place why)
unread_object_fits place why has =
    object_fits 2 (location_fields place ++ why_fields why) (fields_fit 2 (location_fields place) (why_fields why) (place_fits 2 place has)
    (word_fits 2 (codes "status") (codes "unread"), (word_fits 2 (codes "fault") (why_fault why), (text_fits 2 (codes "why") (why_text why), tt))))

why_more_fits : (kind : LineKind) (lines : ℕ) → FieldsFit 2 (why_more kind lines)
why_more_fits kinds.Empty lines = tt
why_more_fits kinds.Distrusted lines = tt
why_more_fits kinds.Fine lines = tt
why_more_fits kinds.Revoked lines = tt
why_more_fits kinds.Unread lines = (text_fits 2 (codes "why") (more_words kinds.Unread lines), tt)

pub more_object_fits : (place : Place) (kind : LineKind) (lines : ℕ) → HasNumbers place → lines < 2 ^ 64 → Fits 3 (more_object place kind lines)
more_object_fits place kind lines has few =
    object_fits 2 (more_fields place kind lines)
    (fields_fit 2 (location_fields place) (word_field (codes "status") (kind_word kind) ∷ number_field (codes "count") lines ∷ why_more kind lines) (place_fits 2 place has)
    (word_fits 2 (codes "status") (kind_word kind), (number_fits 2 (codes "count") lines few, why_more_fits kind lines)))

pub same_object_fits : (place : Place) → HasNumbers place → Fits 3 (same_object place)
same_object_fits place has =
    object_fits 2 (same_fields place)
    (fields_fit 2 (location_fields place) (word_field (codes "status") (codes "same") ∷ []) (place_fits 2 place has) (word_fits 2 (codes "status") (codes "same"), tt))

pub shallow : (value : Json) → Fits 3 value → depth value ≤ max_depth
shallow value fit =
    let three = fit.1 in omega arith
