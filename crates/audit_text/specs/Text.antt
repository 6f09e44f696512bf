-- The lines of findings.
use Rattle.std.specs.Prelude.{ℕ, Bool, true, false, List, [], ◌∷◌, ◌++◌, codes, decimal, drop}
use Rattle.std.specs.Prelude.{flat_map, nat_lt, Option, Some, None, Result, Ok, Err, if◌then◌else◌}
use Rattle.ssh_wire.specs.Reading.{string_at}
use Rattle.ssh_wire.specs.declared.fault.WireFault.{WireFault}
use Rattle.krl_types.specs.Subject.{CertNames, Subject}
use Rattle.krl_fingerprints.specs.declared.keys_by.KeysBy.{KeysBy}
use Rattle.krl_fingerprints.specs.declared.keys_by.KeysBy.TheVariants.{Blob}
use Rattle.krl_entries.specs.Reasons.{any_reason, every_reason, has_reason}
use Rattle.krl_entries.specs.declared.reasons.Reason.{Reason}
use Rattle.krl_entries.specs.declared.reasons.Reason.TheVariants as reasons
use Rattle.krl_entries.specs.declared.reasons.Reasons.{Reasons}
use Rattle.audit_text.specs.Answer.{Answer}
use Rattle.audit_text.specs.Colour.{unread_word, verdict_word}
use Rattle.audit_text.specs.Place.{Place, line_place}
use Rattle.audit_text.specs.Print.{Spelled, authority_words, print_by, spelled_by}
use Rattle.line_pieces.specs.Visible.{visible}
use Rattle.text_index.specs.Explaining.{Explained}
use Rattle.text_index.specs.NamingLines.{Line}
use Rattle.audit_lines.specs.Why.{why_text}
use Rattle.audit_lines.specs.declared.why.Why.{Why}

-- the text of the user before a name, if there is one
abbrev pub label_text : Option (List ℕ) → List ℕ
label_text None = []
label_text (Some label) = visible false label

abbrev pub column_text : ℕ → List ℕ
column_text column = if nat_lt 0 column then codes ":" ++ decimal column else []

-- a line, and a column of it
abbrev pub number_text : (number column : ℕ) → List ℕ
number_text number column =
    if nat_lt 0 number then codes ":" ++ (decimal number ++ column_text column) else []

-- a file, a line of it, or a column of a line
abbrev pub location_text : Place → List ℕ
location_text place =
    label_text place.label
    ++ (visible false place.name ++ number_text place.number place.column)

-- ---- reasons

abbrev pub of_authority : Spelled → List ℕ → List ℕ
of_authority spelled authority =
    codes " of CA " ++ authority_words spelled.by authority spelled.authority

-- the words for a reason, after a comma; a plain key has none that is about a certificate
abbrev pub reason_words : Spelled → Reason → Option CertNames → List ℕ
reason_words spelled reasons.Key _ = codes ", by its key"
reason_words spelled reasons.KeySha1 _ = codes ", by its SHA-1"
reason_words spelled reasons.KeySha256 _ = codes ", by its SHA-256"
reason_words spelled _ None = []
reason_words spelled reasons.Authority (Some cert) = codes ", by the key of its CA"
reason_words spelled reasons.AuthoritySha1 (Some cert) = codes ", by the SHA-1 of its CA"
reason_words spelled reasons.AuthoritySha256 (Some cert) = codes ", by the SHA-256 of its CA"
reason_words spelled reasons.Serial (Some cert) =
    codes ", by serial " ++ (decimal cert.serial ++ of_authority spelled cert.authority)
reason_words spelled reasons.SerialOfAll (Some cert) =
    codes ", by serial " ++ (decimal cert.serial ++ codes " of all CAs")
reason_words spelled reasons.KeyId (Some cert) =
    codes ", by key ID \"" ++ (visible true cert.key_id
    ++ (codes "\"" ++ of_authority spelled cert.authority))
reason_words spelled reasons.KeyIdOfAll (Some cert) =
    codes ", by key ID \"" ++ (visible true cert.key_id ++ codes "\" of all CAs")

-- each reason after a comma
abbrev pub reason_parts : Spelled → Subject → Reasons → List ℕ
reason_parts spelled asked all =
    flat_map (λ reason. if has_reason all reason then reason_words spelled reason asked.cert else [])
    every_reason

-- the reasons, with no comma before the first one
abbrev pub reasons_text : Spelled → Subject → Reasons → List ℕ
reasons_text spelled asked all = drop 1 (reason_parts spelled asked all)

-- ---- what explains

-- a line of a text, with its place
abbrev pub entry_line : Line → List ℕ
entry_line line =
    codes "  " ++ (location_text (line_place line.file line.number)
    ++ (codes ": " ++ (visible false line.text ++ 10 ∷ [])))

-- the reasons that no line gives
abbrev pub unnamed_line : Spelled → Subject → Reasons → List ℕ
unnamed_line spelled asked unnamed =
    codes "  no line of the texts names it" ++ (reasons_text spelled asked unnamed ++ 10 ∷ [])

-- the lines that explain, and after them the reasons that none gives, if there are any
unfoldable pub explained_text : Spelled → Subject → Explained → List ℕ
explained_text spelled asked explained =
    flat_map entry_line explained.lines
    ++ (if any_reason explained.unnamed then unnamed_line spelled asked explained.unnamed else [])

abbrev pub explained_if : KeysBy → Subject → Option Explained → List ℕ
explained_if by asked None = []
explained_if by asked (Some explained) =
    explained_text (spelled_by by (Some explained)) asked explained

-- ---- lines

abbrev pub name_in : Result (List ℕ × List ℕ) WireFault → List ℕ
name_in (Ok (name, rest)) = name
name_in (Err fault) = []

-- the name of the type of a key
unfoldable pub type_of : List ℕ → List ℕ
type_of blob = name_in (string_at blob)

-- the type of a key, and the fingerprint of its plain key
abbrev pub key_words : List ℕ → Subject → List ℕ
key_words blob asked = type_of blob ++ (codes " " ++ print_by Blob asked.plain)

abbrev pub comment_words : List ℕ → List ℕ
comment_words [] = []
comment_words (byte ∷ bytes) = codes ": " ++ visible false (byte ∷ bytes)

-- the line of a key, revoked or not, in colour or not
abbrev pub key_line : Bool → Place → (blob comment : List ℕ) → Subject → Answer → List ℕ
key_line coloured place blob comment asked answer =
    location_text place
    ++ (verdict_word coloured (any_reason answer.reasons)
    ++ (key_words blob asked
    ++ (reasons_text (spelled_by Blob answer.explained) asked answer.reasons
    ++ (comment_words comment ++ 10 ∷ []))))

-- the line of a key, and the lines of texts that explain it
abbrev pub key_text : Bool → Place → (blob comment : List ℕ) → Subject → Answer → List ℕ
key_text coloured place blob comment asked answer =
    key_line coloured place blob comment asked answer
    ++ explained_if Blob asked answer.explained

-- the line for a line or file that is not read, in colour or not
abbrev pub unread_line : Bool → Place → Why → List ℕ
unread_line coloured place why =
    location_text place ++ (unread_word coloured ++ (why_text why ++ 10 ∷ []))
