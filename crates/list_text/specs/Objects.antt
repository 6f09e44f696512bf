-- The facts about a list as JSON objects (krl(1), KRL SHOW).
use Rattle.std.specs.Prelude.{ℕ, ◌==◌, if◌then◌else◌, List, [], ◌∷◌, ◌++◌, codes, decimal, length}
use Rattle.std.specs.Prelude.{Option, Some, None}
use Rattle.json.specs.Json.{string}
use Rattle.json_lines.specs.Field.{Field, array_of, digits_field, field, json_line, number_field}
use Rattle.json_lines.specs.Field.{object_of, text_field, word_field}
use Rattle.serial_set.specs.declared.span.Span.{Span}
use Rattle.key_text.specs.Fingerprints.{fingerprint_text}
use Rattle.key_text.specs.declared.hash.Hash.TheVariants.{Sha256}
use Rattle.cert_listing.specs.Time.{instant_text}
use Rattle.krl_format.specs.declared.header.Header.{Header}
use Rattle.list_text.specs.declared.counts.Counts.{Counts}
use Rattle.list_text.specs.declared.side.Side.{Side}
use Rattle.list_text.specs.declared.side.Side.TheVariants.{Added, Removed}
use Rattle.list_text.specs.Changes.{side_word}
use Rattle.list_text.specs.Facts.{Fact, ListFact, HeldFact}
use Rattle.krl_entries.specs.Facts.{AuthorityFact, SerialsFact, ItemFact}
use Rattle.krl_types.specs.declared.item_kind.ItemKind.TheVariants as kinds
use Rattle.list_text.specs.Text.{hash_text}
use Rattle.text_entries.specs.AuthorityNames.{NameOfKey}

-- all authorities, or one by the fingerprint of its bytes
abbrev pub authority_text : List ℕ → List ℕ
authority_text authority =
    if length authority == 0 then codes "all" else fingerprint_text Sha256 authority

abbrev pub authority_field : List ℕ → Field
authority_field authority = text_field (codes "ca") (authority_text authority)

-- the name of an authority, if it has one
abbrev pub name_fields : (name : Option (List ℕ)) → List Field
name_fields None = []
name_fields (Some name) = text_field (codes "name") name ∷ []

abbrev pub authority_fields : NameOfKey → (authority : List ℕ) → List Field
authority_fields names authority = authority_field authority ∷ name_fields (names authority)

-- the first and the last serial number, as strings, because they may be too large for a reader's
-- numbers
abbrev pub serials_field : Span → Field
serials_field span = field (codes "serial")
    (array_of (string (decimal span.lo) ∷ string (decimal span.hi) ∷ []))

abbrev pub hash_field : (label hash : List ℕ) → Field
hash_field label hash = text_field (codes "hash") (hash_text label hash)

-- the version, the date and the comment of a list; a plain list has none
abbrev pub header_fields : Option Header → List Field
header_fields None = []
header_fields (Some header) =
    digits_field (codes "version") header.version
    ∷ text_field (codes "generated") (instant_text header.date)
    ∷ text_field (codes "comment") header.comment ∷ []

-- the fields of the object of a fact, by the names of authorities
abbrev pub fact_fields : NameOfKey → Fact → List Field
fact_fields names (ListFact name header) = word_field (codes "list") name ∷ header_fields header
fact_fields names (HeldFact (AuthorityFact authority)) = authority_fields names authority
fact_fields names (HeldFact (SerialsFact authority span)) =
    authority_fields names authority ++ serials_field span ∷ []
fact_fields names (HeldFact (ItemFact kinds.Id authority id)) =
    authority_fields names authority ++ text_field (codes "id") id ∷ []
fact_fields names (HeldFact (ItemFact kinds.Key authority blob)) =
    text_field (codes "key") (fingerprint_text Sha256 blob) ∷ []
fact_fields names (HeldFact (ItemFact kinds.Sha1 authority hash)) =
    hash_field (codes "SHA1:") hash ∷ []
fact_fields names (HeldFact (ItemFact kinds.Sha256 authority hash)) =
    hash_field (codes "SHA256:") hash ∷ []

-- the side of a fact about a change
abbrev pub side_fields : Option Side → List Field
side_fields None = []
side_fields (Some side) = word_field (codes "change") (side_word side) ∷ []

-- The line of a fact. An authority has no line of its own: it is in those of its facts.
unfoldable pub object_line : NameOfKey → Option Side → Fact → List ℕ
object_line names side (HeldFact (AuthorityFact authority)) = []
object_line names side fact = json_line (object_of (side_fields side ++ fact_fields names fact))

-- The line of a fact, without the name of a list. A plain list has nothing else to say.
abbrev pub unnamed_object : NameOfKey → Fact → List ℕ
unnamed_object names (ListFact name None) = []
unnamed_object names (ListFact name (Some header)) =
    json_line (object_of (header_fields (Some header)))
unnamed_object names (HeldFact fact) = object_line names None (HeldFact fact)

-- how many facts of each kind
abbrev pub kind_fields : Counts → List Field
kind_fields counts =
    number_field (codes "cas") counts.authorities
    ∷ digits_field (codes "serials") counts.serials
    ∷ number_field (codes "ids") counts.ids
    ∷ number_field (codes "keys") counts.keys
    ∷ number_field (codes "hashes") counts.hashes ∷ []

abbrev pub status_field : Field
status_field = word_field (codes "status") (codes "done")

-- the last object: how many facts were printed
abbrev pub done_line : Counts → List ℕ
done_line counts =
    json_line (object_of
    (status_field ∷ number_field (codes "lists") counts.lists ∷ kind_fields counts))

abbrev pub side_field : Side → Counts → Field
side_field side counts = field (side_word side) (object_of (kind_fields counts))

-- the last object of a comparison: how many facts were printed for each side
abbrev pub changes_line : (added removed : Counts) → List ℕ
changes_line added removed =
    json_line (object_of
    (status_field ∷ side_field Added added ∷ side_field Removed removed ∷ []))
