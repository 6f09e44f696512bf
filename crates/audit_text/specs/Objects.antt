-- Findings as JSON objects.
use Rattle.std.specs.Prelude.{ℕ, Bool, true, false, List, [], ◌∷◌, ◌++◌, codes, flat_map}
use Rattle.std.specs.Prelude.{map, nat_lt, Option, Some, None, if◌then◌else◌}
use Rattle.json.specs.Json.{Json}
use Rattle.json_lines.specs.Field.{Field, array_of, digits_field, field, number_field, object_of}
use Rattle.json_lines.specs.Field.{text_field, word_field}
use Rattle.key_text.specs.Marker.{marker_word}
use Rattle.key_text.specs.declared.marker.Marker.{Marker}
use Rattle.krl_types.specs.Subject.{CertNames, Subject}
use Rattle.krl_fingerprints.specs.declared.keys_by.KeysBy.{KeysBy}
use Rattle.krl_fingerprints.specs.declared.keys_by.KeysBy.TheVariants.{Blob}
use Rattle.krl_entries.specs.Reasons.{any_reason, every_reason, has_reason}
use Rattle.krl_entries.specs.declared.reasons.Reason.{Reason}
use Rattle.krl_entries.specs.declared.reasons.Reason.TheVariants as reasons
use Rattle.krl_entries.specs.declared.reasons.Reasons.{Reasons}
use Rattle.audit_lines.specs.Outcome.{Found}
use Rattle.audit_text.specs.Answer.{Answer}
use Rattle.audit_text.specs.Place.{Place, line_place}
use Rattle.audit_text.specs.Print.{Spelled, print_by, spelled_by}
use Rattle.audit_text.specs.Text.{type_of}
use Rattle.audit_lines.specs.FaultText.{why_fields}
use Rattle.audit_lines.specs.declared.why.Why.{Why}
use Rattle.text_index.specs.Explaining.{Explained}
use Rattle.text_index.specs.NamingLines.{Line}

-- the text of the user before a name, if there is one
abbrev pub label_fields : Option (List ℕ) → List Field
label_fields None = []
label_fields (Some label) = word_field (codes "label") label ∷ []

abbrev pub column_fields : ℕ → List Field
column_fields column =
    if nat_lt 0 column then number_field (codes "column") column ∷ [] else []

-- a line, and a column of it
abbrev pub number_fields : (number column : ℕ) → List Field
number_fields number column =
    if nat_lt 0 number then number_field (codes "line") number ∷ column_fields column else []

-- a file, a line of it, or a column of a line
abbrev pub location_fields : Place → List Field
location_fields place =
    label_fields place.label
    ++ word_field (codes "file") place.name ∷ number_fields place.number place.column

-- ---- reasons

abbrev pub serial_field : ℕ → Field
serial_field serial = digits_field (codes "serial") serial

abbrev pub id_field : List ℕ → Field
id_field id = text_field (codes "id") id

abbrev pub by_value : List ℕ → List Field → Json
by_value by fields = object_of (word_field (codes "by") by ∷ fields)

-- a name of the authority's key
abbrev pub of_value : List ℕ → Json
of_value of = by_value (codes "authority") (word_field (codes "of") of ∷ [])

abbrev pub name_fields : Option (List ℕ) → List Field
name_fields None = []
name_fields (Some name) = text_field (codes "name") name ∷ []

-- the fingerprint of an authority, and its name, if it has one
abbrev pub authority_fields : Spelled → List ℕ → List Field
authority_fields spelled authority =
    text_field (codes "authority") (print_by spelled.by authority) ∷ name_fields spelled.authority

abbrev pub all_authorities : List Field
all_authorities = text_field (codes "authority") (codes "all") ∷ []

-- a serial number or a key ID, with the fields of its authority
abbrev pub serial_value : ℕ → List Field → Json
serial_value serial authority = by_value (codes "serial") (serial_field serial ∷ authority)

abbrev pub id_value : List ℕ → List Field → Json
id_value id authority = by_value (codes "id") (id_field id ∷ authority)

-- A plain key has no reason that is about a certificate.
abbrev pub reason_value : Spelled → Reason → Option CertNames → List Json
reason_value spelled reasons.Key _ = by_value (codes "key") [] ∷ []
reason_value spelled reasons.KeySha1 _ = by_value (codes "sha1") [] ∷ []
reason_value spelled reasons.KeySha256 _ = by_value (codes "sha256") [] ∷ []
reason_value spelled _ None = []
reason_value spelled reasons.Authority (Some cert) = of_value (codes "key") ∷ []
reason_value spelled reasons.AuthoritySha1 (Some cert) = of_value (codes "sha1") ∷ []
reason_value spelled reasons.AuthoritySha256 (Some cert) = of_value (codes "sha256") ∷ []
reason_value spelled reasons.Serial (Some cert) =
    serial_value cert.serial (authority_fields spelled cert.authority) ∷ []
reason_value spelled reasons.SerialOfAll (Some cert) = serial_value cert.serial all_authorities ∷ []
reason_value spelled reasons.KeyId (Some cert) =
    id_value cert.key_id (authority_fields spelled cert.authority) ∷ []
reason_value spelled reasons.KeyIdOfAll (Some cert) = id_value cert.key_id all_authorities ∷ []

-- all reasons, in the order in which people read them
abbrev pub reason_values : Spelled → Subject → Reasons → List Json
reason_values spelled asked found =
    flat_map
    (λ reason. if has_reason found reason then reason_value spelled reason asked.cert else [])
    every_reason

-- ---- keys

abbrev pub status_word : Bool → List ℕ
status_word true = codes "revoked"
status_word false = codes "ok"

-- the type of a key, the fingerprint of its plain key, and its comment
abbrev pub key_fields : (blob comment : List ℕ) → Subject → Reasons → List Field
key_fields blob comment asked all =
    word_field (codes "status") (status_word (any_reason all))
    ∷ text_field (codes "type") (type_of blob)
    ∷ text_field (codes "fingerprint") (print_by Blob asked.plain)
    ∷ text_field (codes "comment") comment ∷ []

abbrev pub marker_fields : Option Marker → List Field
marker_fields None = []
marker_fields (Some marker) = word_field (codes "marker") (marker_word marker) ∷ []

abbrev pub front_word : Bool → List ℕ
front_word true = codes "hosts"
front_word false = codes "options"

abbrev pub front_fields : Bool → List ℕ → List Field
front_fields hosts [] = []
front_fields hosts (byte ∷ bytes) = text_field (front_word hosts) (byte ∷ bytes) ∷ []

-- the rest of the line
abbrev pub line_fields : Option Marker → Bool → List ℕ → List Field
line_fields marker hosts front = marker_fields marker ++ front_fields hosts front

abbrev pub cert_names : KeysBy → CertNames → List Field
cert_names by cert =
    serial_field cert.serial ∷ id_field cert.key_id
    ∷ text_field (codes "authority") (print_by by cert.authority) ∷ []

abbrev pub cert_field : KeysBy → CertNames → Field
cert_field by cert = field (codes "certificate") (object_of (cert_names by cert))

abbrev pub cert_fields : KeysBy → Option CertNames → List Field
cert_fields by None = []
cert_fields by (Some cert) = cert_field by cert ∷ []

abbrev pub reasons_field : Spelled → Subject → Reasons → Field
reasons_field spelled asked all =
    field (codes "reasons") (array_of (reason_values spelled asked all))

-- a line of a text, with its place
abbrev pub entry_value : Line → Json
entry_value line =
    object_of (location_fields (line_place line.file line.number)
    ++ text_field (codes "text") line.text ∷ [])

-- the lines of texts that explain, and the reasons that none gives
abbrev pub explained_fields : KeysBy → Subject → Option Explained → List Field
explained_fields by asked None = []
explained_fields by asked (Some explained) =
    field (codes "entries") (array_of (map entry_value explained.lines))
    ∷ field (codes "unnamed")
    (array_of (reason_values (spelled_by by (Some explained)) asked explained.unnamed)) ∷ []

-- the certificate, and why it or its key is revoked
abbrev pub list_fields : KeysBy → Subject → Answer → List Field
list_fields by asked answer =
    cert_fields by asked.cert
    ++ reasons_field (spelled_by by answer.explained) asked answer.reasons
    ∷ explained_fields by asked answer.explained

-- the object of a key, revoked or not
abbrev pub key_object : Place → Found → Answer → Json
key_object place found answer =
    object_of (location_fields place
    ++ (key_fields found.blob found.comment found.asked answer.reasons
    ++ (line_fields found.marker found.hosts found.front ++ list_fields Blob found.asked answer)))

-- ---- lines and files that are not read

-- the object of a line or file that is not read: it has no text of the line itself
abbrev pub unread_object : Place → Why → Json
unread_object place why = object_of (location_fields place ++ why_fields why)
