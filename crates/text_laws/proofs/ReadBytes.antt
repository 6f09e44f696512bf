-- The entries of lists that are read from bytes are of bytes.
use Rattle.std.proofs.Common.{◌≡◌, ℕ, ◌<◌, ◌==◌, ◌↔◌, List, [], ◌∷◌, ◌++◌, map, Option, Some, None, Result, Ok, Err, refl, subst, inl, inr}
use Rattle.std.specs.List.{AllByRecursion, flat_map, onto_first, slice_split}
use Rattle.std.specs.Prelude.{slice_index_or}
use Rattle.std.proofs.lemmas.Bool.{cases_Bool}
use Rattle.ssh_wire.specs.Rows.{BeginsWithTable}
use Rattle.ssh_wire.specs.Wire.{IsBytes, string, strings}
use Rattle.ssh_wire.proofs.Digits.{IsBytes-append, IsBytes-back, IsBytes-cons, IsBytes-front, IsBytes-nil, IsBytes-tail}
use Rattle.ssh_wire.proofs.Fields.{IsBytes-content, IsBytes-in_string, IsBytes-string}
use Rattle.ssh_wire.proofs.RowLaws.{table_front}
use Rattle.ssh_key.specs.Key.{blob_of}
use Rattle.ssh_key.specs.Kind.{type_name}
use Rattle.ssh_cert.specs.Cert.{opening_values}
use Rattle.ssh_cert.specs.Field.{opening_fields}
use Rattle.ssh_cert.specs.SubjectReading.{IsSubject, certified, plain_key}
use Rattle.key_text.specs.Lines.{is_newline}
use Rattle.keyed_lines.specs.declared.key_cause.KeyCause.{KeyCause}
use Rattle.krl_types.specs.Entry.{Entry, SerialsEntry, RangeEntry, BitmapEntry, IdEntry, KeyEntry, Sha1Entry, Sha256Entry}
use Rattle.krl_types.specs.Subject.{Subject}
use Rattle.krl_format.specs.declared.header.Header.{Header}
use Rattle.krl_format.specs.Entries.{entries_of, section_entries, subsection_entries}
use Rattle.krl_format.specs.Krl.{Certificates, Extension, Keys, Sha1s, Sha256s, Signature, SpelledSection, Spells, SpellsCertificates, SpellsEach, SpellsSection, SpellsSubsection, Subsection, authority_fields, header_fields}
use Rattle.krl_format.specs.Krl.{Serials, Range, Bitmap, Ids, SubsectionExtension}
use Rattle.plain_list.specs.Key.{line_key}
use Rattle.plain_list.specs.List.{entries_of as entries_of_lines, key_entries, line_entries}
use Rattle.plain_list.specs.Spelled.{Revokes, one_key, remark, short}
use Rattle.text_laws.proofs.KeyValues.{name_bytes}

-- The texts of an entry are bytes.
abbrev pub EntryIsBytes : Entry → Type 0
EntryIsBytes (SerialsEntry authority numbers) = IsBytes authority
EntryIsBytes (RangeEntry authority min max) = IsBytes authority
EntryIsBytes (BitmapEntry authority offset number) = IsBytes authority
EntryIsBytes (IdEntry authority text) = IsBytes authority × IsBytes text
EntryIsBytes (KeyEntry blob) = IsBytes blob
EntryIsBytes (Sha1Entry hash) = IsBytes hash
EntryIsBytes (Sha256Entry hash) = IsBytes hash

-- So are those of each.
abbrev pub AreBytes : List Entry → Type 0
AreBytes entries = AllByRecursion EntryIsBytes entries

both : (front back : List Entry) → AreBytes front → AreBytes back → AreBytes (front ++ back)
both [] back first second = second
both (entry ∷ front) back first second = (first.0, both front back first.1 second)

mapped : (entry : List ℕ → Entry) → ((text : List ℕ) → IsBytes text → EntryIsBytes (entry text))
    → (texts : List (List ℕ)) → IsBytes (strings texts) → AreBytes (map entry texts)
mapped entry is [] bytes = tt
mapped entry is (text ∷ texts) bytes =
    (is text (IsBytes-in_string text (IsBytes-front (string text) (strings texts) bytes)), mapped entry is texts (IsBytes-back (string text) (strings texts) bytes))

-- ---- key revocation lists

-- the content after a type byte
inner : (type_byte : ℕ) (content text : List ℕ) → text ≡ type_byte ∷ string content → IsBytes text → IsBytes content
inner type_byte content text spelled bytes = IsBytes-in_string content (IsBytes-tail type_byte (string content) (subst IsBytes spelled bytes))

subsection_bytes : (authority text : List ℕ) (subsection : Subsection) → IsBytes authority
    → SpellsSubsection text subsection → IsBytes text → AreBytes (subsection_entries authority subsection)
subsection_bytes authority text (Serials numbers) named spelled bytes = (named, tt)
subsection_bytes authority text (Range min max) named spelled bytes = (named, tt)
subsection_bytes authority text (Bitmap offset number) named spelled bytes = (named, tt)
subsection_bytes authority text (Ids texts) named spelled bytes =
    mapped (IdEntry authority) (λ id is. (named, is)) texts (subst IsBytes spelled.content_is (inner _ spelled.content text spelled.spelled bytes))
subsection_bytes authority text SubsectionExtension named spelled bytes = tt

subsections_bytes : (authority text : List ℕ) (subsections : List Subsection) → IsBytes authority
    → SpellsEach SpellsSubsection text subsections → IsBytes text
    → AreBytes (flat_map (subsection_entries authority) subsections)
subsections_bytes authority text [] named spelled bytes = tt
subsections_bytes authority text (subsection ∷ subsections) named (first, (rest, (parts, one, others))) bytes =
    let all : IsBytes (first ++ rest) = subst IsBytes parts bytes in
    both (subsection_entries authority subsection) (flat_map (subsection_entries authority) subsections)
    (subsection_bytes authority first subsection named one (IsBytes-front first rest all))
    (subsections_bytes authority rest subsections named others (IsBytes-back first rest all))

-- the first field of a section of certificates
authority_bytes : (content : List ℕ) (values : List (List ℕ)) (body : List ℕ)
    → BeginsWithTable authority_fields [] content values body → IsBytes content → IsBytes (slice_index_or values 0 [])
authority_bytes content values body (value, left, stands, passed, (reserved, rest, others, none, (same, ended))) bytes =
    subst (λ (vs : List (List ℕ)). IsBytes (slice_index_or vs 0 [])) same (IsBytes-content content value left bytes stands.spelled)

section_bytes : (text : List ℕ) (section : SpelledSection) → SpellsSection text section → IsBytes text
    → AreBytes (section_entries section)
section_bytes text (Certificates authority subsections) spelled bytes =
    let c : SpellsCertificates spelled.content authority subsections = spelled.content_is in
    let all : IsBytes spelled.content = inner _ spelled.content text spelled.spelled bytes in
    let named : IsBytes authority = subst IsBytes c.authority_is (authority_bytes spelled.content c.values c.body c.fields all) in
    let front = table_front authority_fields [] spelled.content c.values c.body c.fields in
    subsections_bytes authority c.body subsections named c.subsections_are (IsBytes-back front.0 c.body (subst IsBytes front.1 all))
section_bytes text (Keys blobs) spelled bytes = mapped KeyEntry (λ t is. is) blobs (subst IsBytes spelled.content_is (inner _ spelled.content text spelled.spelled bytes))
section_bytes text (Sha1s hashes) spelled bytes = mapped Sha1Entry (λ t is. is) hashes (subst IsBytes spelled.content_is.0 (inner _ spelled.content text spelled.spelled bytes))
section_bytes text (Sha256s hashes) spelled bytes = mapped Sha256Entry (λ t is. is) hashes (subst IsBytes spelled.content_is.0 (inner _ spelled.content text spelled.spelled bytes))
section_bytes text Signature spelled bytes = tt
section_bytes text Extension spelled bytes = tt

sections_bytes : (text : List ℕ) (sections : List SpelledSection) → SpellsEach SpellsSection text sections
    → IsBytes text → AreBytes (entries_of sections)
sections_bytes text [] spelled bytes = tt
sections_bytes text (section ∷ sections) (first, (rest, (parts, one, others))) bytes =
    let all : IsBytes (first ++ rest) = subst IsBytes parts bytes in
    both (section_entries section) (entries_of sections) (section_bytes first section one (IsBytes-front first rest all)) (sections_bytes rest sections others (IsBytes-back first rest all))

pub list_bytes : (text : List ℕ) (header : Header) (sections : List SpelledSection) → Spells text header sections
    → IsBytes text → AreBytes (entries_of sections)
list_bytes text header sections spelled bytes =
    let front = table_front header_fields [] text spelled.values spelled.body spelled.fields in
    sections_bytes spelled.body sections spelled.sections_are (IsBytes-back front.0 spelled.body (subst IsBytes front.1 bytes))

-- ---- plain lists

onto_bytes : (byte : ℕ) (parts : List (List ℕ)) → byte < 256 → AllByRecursion IsBytes parts
    → AllByRecursion IsBytes (onto_first byte parts)
onto_bytes byte [] small all = (IsBytes-cons byte [] small IsBytes-nil, tt)
onto_bytes byte (part ∷ parts) small all = (IsBytes-cons byte part small all.0, all.1)

split_bytes : (text : List ℕ) → IsBytes text → AllByRecursion IsBytes (slice_split is_newline text)
split_bytes [] bytes = (IsBytes-nil, tt)
split_bytes (byte ∷ text) bytes =
    let later = split_bytes text (IsBytes-tail byte text bytes) in
    elim (cases_Bool (byte == 10)) [
      | inl feed ↦ rw feed (IsBytes-nil, later)
      | inr other ↦ rw other (onto_bytes byte (slice_split is_newline text) (bytes 0) later)
    ]

-- the plain key of a subject
subject_bytes : (blob : List ℕ) (asked : Subject) → IsBytes blob → IsSubject blob asked → IsBytes asked.plain
subject_bytes blob asked bytes (plain_key key is_key same) = rw same bytes
subject_bytes blob asked bytes (certified certificate is same) =
    let front = table_front opening_fields [] blob (opening_values certificate) is.fields is.opening in
    let fields : IsBytes is.fields = IsBytes-back front.0 is.fields (subst IsBytes front.1 bytes) in
    let key : IsBytes certificate.key.fields = IsBytes-front certificate.key.fields is.rest (subst IsBytes is.public.spelled fields) in
    let whole : IsBytes (blob_of certificate.key) =
    IsBytes-append (string (type_name certificate.key.kind)) certificate.key.fields (IsBytes-string (type_name certificate.key.kind) (name_bytes certificate.key.kind)) key in
    rw same whole

revoked_bytes : (line blob : List ℕ) → Revokes line (Some blob) → IsBytes blob
revoked_bytes line blob (remark is none) = absurd cc
revoked_bytes line blob (short key has is none) = absurd cc
revoked_bytes line blob (one_key key has is some) =
    let same : blob ≡ blob_of key = cc in
    let plain : IsBytes has.asked.plain = subject_bytes has.is_line.blob has.asked has.is_line.line.bytes has.is_line.asks in
    rw same (subst IsBytes has.is_key.spelled plain)

-- the law that says which key a line revokes
abbrev pub IsReadAsSpelled : Type 0
IsReadAsSpelled = (line : List ℕ) (key : Option (List ℕ)) → IsBytes line → (line_key line ≡ Ok key) ↔ Revokes line key

key_bytes : IsReadAsSpelled → (line : List ℕ) (read : Result (Option (List ℕ)) KeyCause) → IsBytes line
    → line_key line ≡ read → AreBytes (key_entries read)
key_bytes law line (Ok (Some blob)) bytes is = (revoked_bytes line blob ((law line (Some blob) bytes).0 is), tt)
key_bytes law line (Ok None) bytes is = tt
key_bytes law line (Err cause) bytes is = tt

lines_bytes : IsReadAsSpelled → (lines : List (List ℕ)) → AllByRecursion IsBytes lines
    → AreBytes (entries_of_lines lines)
unfolding entries_of_lines
lines_bytes law [] bytes = tt
lines_bytes law (line ∷ lines) bytes = both (line_entries line) (flat_map line_entries lines) (key_bytes law line (line_key line) bytes.0 refl) (lines_bytes law lines bytes.1)

pub plain_bytes : IsReadAsSpelled → (text : List ℕ) → IsBytes text
    → AreBytes (entries_of_lines (slice_split is_newline text))
plain_bytes law text bytes = lines_bytes law (slice_split is_newline text) (split_bytes text bytes)
