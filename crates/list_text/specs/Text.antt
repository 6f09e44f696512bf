-- The text of a list: a line for each fact (krl(1), THE TEXT OF A LIST).
use Rattle.std.specs.Prelude.{ℕ, ◌==◌, ◌&&◌, ◌||◌, nat_eq, nat_le, not, Bool, false, List, []}
use Rattle.std.specs.Prelude.{◌++◌, codes, decimal, is_some, length, map, Option, Some, None}
use Rattle.std.specs.Prelude.{Result, Ok, Err, if◌then◌else◌}
use Rattle.std.specs.List.{concat, ends_with, list_all, starts_with}
use Rattle.base64.specs.Engines.{standard}
use Rattle.base64.specs.GeneralPurpose.{encode_of}
use Rattle.hex.specs.Hex.{encode_lower}
use Rattle.ssh_wire.specs.Ascii.{number_sign, space, tilde}
use Rattle.serial_set.specs.declared.span.Span.{Span}
use Rattle.ssh_key.specs.Key.{PublicKey}
use Rattle.ssh_key.specs.KeyReading.{key_at}
use Rattle.ssh_key.specs.Kind.{type_name}
use Rattle.ssh_key.specs.declared.fault.KeyFault.{KeyFault}
use Rattle.key_text.specs.Fingerprints.{fingerprint_text, unpadded}
use Rattle.key_text.specs.declared.hash.Hash.TheVariants.{Sha256}
use Rattle.cert_listing.specs.Time.{instant_text}
use Rattle.line_pieces.specs.Visible.{visible}
use Rattle.krl_entries.specs.Revocations.{Revocations}
use Rattle.krl_format.specs.declared.header.Header.{Header}
use Rattle.text_entries.specs.AuthorityNames.{NameOfKey}
use Rattle.text_entries.specs.KeyId.{no_id}
use Rattle.list_text.specs.Facts.{Fact, ListFact, HeldFact, facts_of}
use Rattle.krl_entries.specs.Facts.{AuthorityFact, SerialsFact, ItemFact}
use Rattle.krl_types.specs.declared.item_kind.ItemKind.TheVariants as kinds

-- ---- keys and certificate authorities

-- A key, as in the line of a .pub file, and its fingerprint as a comment; or bytes that are no
-- plain key. A key has one blob, so other bytes for the same key are no key.
abbrev pub named_line : (label blob : List ℕ) → Result PublicKey KeyFault → List ℕ
named_line label blob (Ok key) =
    label ++ (codes ": " ++ (type_name key.kind ++ (codes " " ++ (encode_of standard blob
    ++ (codes " # " ++ (fingerprint_text Sha256 blob ++ codes "\n"))))))
named_line label blob (Err fault) =
    label ++ (codes "-blob: " ++ (encode_of standard blob ++ codes "\n"))

-- all authorities, or one; one that has a name is given it
abbrev pub authority_line : (name : Option (List ℕ)) → (authority : List ℕ) → List ℕ
authority_line None authority =
    if length authority == 0 then codes "ca: all\n"
    else named_line (codes "ca") authority (key_at authority)
authority_line (Some name) authority =
    codes "@" ++ named_line name authority (key_at authority)

-- the name of the authority of an entry, before its word
abbrev pub name_part : (name : Option (List ℕ)) → List ℕ
name_part None = []
name_part (Some name) = codes "@" ++ (name ++ codes " ")

abbrev pub key_line : List ℕ → List ℕ
key_line blob = named_line (codes "key") blob (key_at blob)

-- ---- serial numbers

-- one serial number, or the first and the last of several
abbrev pub serials_line : Span → List ℕ
serials_line span =
    if span.lo == span.hi then codes "serial: " ++ (decimal span.lo ++ codes "\n")
    else codes "serial: " ++ (decimal span.lo ++ (codes "-" ++ (decimal span.hi ++ codes "\n")))

-- ---- key IDs

-- ASCII without control characters and without `#`
abbrev pub is_text_byte : ℕ → Bool
is_text_byte byte = nat_le space byte && (nat_le byte tilde && not (byte == number_sign))

abbrev pub has_blank_end : List ℕ → Bool
has_blank_end id =
    starts_with nat_eq id (codes " ") || ends_with nat_eq id (codes " ")

-- A reader of texts would not take it for a key ID.
abbrev pub looks_otherwise : List ℕ → Bool
looks_otherwise id = is_some (no_id id)

-- A line can have the key ID as it is: it is not empty, neither end is a blank, it looks like
-- nothing else, and each byte is one of a text.
abbrev pub is_text : List ℕ → Bool
is_text id =
    not (length id == 0) && (not (has_blank_end id)
    && (not (looks_otherwise id) && list_all is_text_byte id))

abbrev pub id_line : List ℕ → List ℕ
id_line id =
    if is_text id then codes "id: " ++ (id ++ codes "\n")
    else codes "id-hex: " ++ (encode_lower id ++ codes "\n")

-- ---- hashes

-- the name of the hash and a colon, and the hash in base64 without padding, as in fingerprints
abbrev pub hash_text : (label hash : List ℕ) → List ℕ
hash_text label hash = label ++ unpadded hash

abbrev pub hash_line : (label hash : List ℕ) → List ℕ
hash_line label hash = codes "hash: " ++ (label ++ (unpadded hash ++ codes "\n"))

-- ---- lists

abbrev pub comment_part : List ℕ → List ℕ
comment_part comment =
    if length comment == 0 then [] else codes ", " ++ visible false comment

-- The comment about a list: the name of its file, and its version, its date and its own comment,
-- which a plain list does not have.
abbrev pub list_line : List ℕ → Option Header → List ℕ
list_line name (Some header) =
    codes "# " ++ (visible false name ++ (codes ": version " ++ (decimal header.version
    ++ (codes ", " ++ (instant_text header.date ++ (comment_part header.comment ++ codes "\n"))))))
list_line name None = codes "# " ++ (visible false name ++ codes ": a plain list\n")

-- the same comment without the name, which a plain list does not have
abbrev pub header_line : Option Header → List ℕ
header_line (Some header) =
    codes "# version " ++ (decimal header.version
    ++ (codes ", " ++ (instant_text header.date ++ (comment_part header.comment ++ codes "\n"))))
header_line None = []

-- ---- all facts

-- no authority has a name
abbrev pub no_names : NameOfKey
no_names key = None

-- the line of a fact, by the names of authorities
unfoldable pub fact_line : NameOfKey → Fact → List ℕ
fact_line names (ListFact name header) = list_line name header
fact_line names (HeldFact (AuthorityFact authority)) = authority_line (names authority) authority
fact_line names (HeldFact (SerialsFact authority span)) =
    name_part (names authority) ++ serials_line span
fact_line names (HeldFact (ItemFact kinds.Id authority id)) =
    name_part (names authority) ++ id_line id
fact_line names (HeldFact (ItemFact kinds.Key authority blob)) = key_line blob
fact_line names (HeldFact (ItemFact kinds.Sha1 authority hash)) =
    hash_line (codes "SHA1:") hash
fact_line names (HeldFact (ItemFact kinds.Sha256 authority hash)) =
    hash_line (codes "SHA256:") hash

-- the same without the name of a list
abbrev pub unnamed_line : NameOfKey → Fact → List ℕ
unnamed_line names (ListFact name header) = header_line header
unnamed_line names (HeldFact fact) = fact_line names (HeldFact fact)

-- the text of what is held
abbrev pub text_of : NameOfKey → Revocations → List ℕ
text_of names held = concat (map (fact_line names) (facts_of held))
