-- The printed contents of a list (ssh-keygen(1), options -Q and -l): a line for each fact.
use Rattle.std.specs.Prelude.{ℕ, ◌==◌, if◌then◌else◌, List, [], ◌∷◌, ◌++◌, codes}
use Rattle.std.specs.Prelude.{decimal, length, map}
use Rattle.std.specs.List.{concat}
use Rattle.base64.specs.Engines.{standard}
use Rattle.base64.specs.GeneralPurpose.{encode_of}
use Rattle.hex.specs.Hex.{encode_lower}
use Rattle.serial_set.specs.declared.span.Span.{Span}
use Rattle.key_text.specs.declared.hash.Hash.TheVariants.{Sha256}
use Rattle.key_text.specs.Fingerprints.{fingerprint_text, unpadded}
use Rattle.ssh_cert.specs.Escape.{escaped}
use Rattle.cert_listing.specs.Time.{instant_text}
use Rattle.krl_entries.specs.Facts.{AuthorityFact, Fact, ItemFact, SerialsFact, facts_of}
use Rattle.krl_entries.specs.Revocations.{Revocations}
use Rattle.krl_format.specs.declared.header.Header.{Header}
use Rattle.krl_types.specs.declared.item_kind.ItemKind.{ItemKind}
use Rattle.krl_types.specs.declared.item_kind.ItemKind.TheVariants as kinds
use Rattle.run_output.specs.Run.{Item}
use Rattle.run_output.specs.Run.{said_of}

-- A list that was read: its header, and its stored entries.
pub record Known : Type 0 where
  pub header : Header
  pub contents : Revocations

abbrev pub known_of : Header → Revocations → Known
known_of header contents = record { header = header; contents = contents }

-- a label and its text
abbrev pub line : List ℕ → List ℕ → List ℕ
line label text = label ++ (text ++ 10 ∷ [])

unfoldable pub version_line : ℕ → List ℕ
version_line version = line (codes "# KRL version ") (decimal version)

unfoldable pub date_line : ℕ → List ℕ
date_line date = line (codes "# Generated at ") (instant_text date)

unfoldable pub comment_line : List ℕ → List ℕ
comment_line comment = line (codes "# Comment: ") (escaped comment)

-- a line for a comment, if there is one
abbrev pub comment_lines : List ℕ → List (List ℕ)
comment_lines [] = []
comment_lines (byte ∷ bytes) = comment_line (byte ∷ bytes) ∷ []

-- all authorities, or one by the fingerprint of its bytes
abbrev pub authority_text : List ℕ → List ℕ
authority_text authority =
    if length authority == 0 then codes "all" else fingerprint_text Sha256 authority

unfoldable pub authority_line : List ℕ → List ℕ
authority_line authority = line (codes "# CA ") (authority_text authority)

-- one serial, or the first and the last of several
abbrev pub serials_text : Span → List ℕ
serials_text span =
    if span.lo == span.hi then decimal span.lo
    else decimal span.lo ++ (codes "-" ++ decimal span.hi)

unfoldable pub serials_line : Span → List ℕ
serials_line span = line (codes "serial: ") (serials_text span)

-- the beginning of the line of a key ID, a key or a hash
abbrev pub label_of : ItemKind → List ℕ
label_of kinds.Id = codes "id: "
label_of kinds.Key = codes "key: "
label_of kinds.Sha1 = codes "sha1: "
label_of kinds.Sha256 = codes "hash: SHA256:"

-- its bytes, as they are printed
abbrev pub item_text : ItemKind → List ℕ → List ℕ
item_text kinds.Id bytes = escaped bytes
item_text kinds.Key bytes = encode_of standard bytes
item_text kinds.Sha1 bytes = encode_lower bytes
item_text kinds.Sha256 bytes = unpadded bytes

unfoldable pub item_line : ItemKind → List ℕ → List ℕ
item_line kind bytes = line (label_of kind) (item_text kind bytes)

unfoldable pub header_lines : Header → List (List ℕ)
header_lines header =
    version_line header.version ∷ date_line header.date ∷ comment_lines header.comment

-- the line of a fact; the authority of serials and key IDs is in the line before them
abbrev pub fact_line : Fact → List ℕ
fact_line (AuthorityFact authority) = authority_line authority
fact_line (SerialsFact authority span) = serials_line span
fact_line (ItemFact kind authority bytes) = item_line kind bytes

-- all authorities, keys and hashes
unfoldable pub contents_lines : Revocations → List (List ℕ)
contents_lines contents = map fact_line (facts_of contents)

abbrev pub known_lines : Known → List (List ℕ)
known_lines known = header_lines known.header ++ contents_lines known.contents

-- the lines of a list's contents, one after the other
abbrev pub dump_text : Known → List ℕ
dump_text known = concat (known_lines known)

abbrev pub all_said : List ℕ → List (List ℕ) → List Item
all_said name lines = map (said_of name) lines
