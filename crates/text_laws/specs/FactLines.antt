-- Facts about lists, as the reader of texts takes their lines.
use Rattle.std.specs.Prelude.{◌≡◌, ℕ, ◌<◌, ◌≤◌, ◌^◌, List, [], ◌∷◌, length, Option, Some, None}
use Rattle.std.specs.Prelude.{Ok, ⊤, true, false}
use Rattle.std.specs.List.{slice_split}
use Rattle.serial_set.specs.declared.span.Span.{Span}
use Rattle.ssh_wire.specs.Wire.{IsBytes}
use Rattle.key_text.specs.Lines.{is_newline}
use Rattle.krl_format.specs.declared.header.Header.{Header}
use Rattle.krl_entries.specs.Facts.{AuthorityFact, ItemFact, SerialsFact}
use Rattle.krl_types.specs.Entry.{RangeEntry}
use Rattle.krl_types.specs.Item.{item_entry}
use Rattle.krl_types.specs.declared.item_kind.ItemKind.TheVariants as kinds
use Rattle.list_text.specs.Facts.{Fact, HeldFact, ListFact}
use Rattle.text_entries.specs.AuthorityNames.{NameOfKey, NamedKeys, can_have, is_name, key_named}
use Rattle.text_entries.specs.Says.{Blank, Current, Declares, Names, Saying, Under, line_says}
use Rattle.text_entries.specs.Values.{has_zero}
use Rattle.text_entries.specs.declared.standing.Standing.{Standing}
use Rattle.text_laws.specs.Names.{CanBeNamed}

-- An authority without a name becomes the current one, and one with a name is given it.
abbrev pub authority_says : (name : Option (List ℕ)) → (authority : List ℕ) → Saying
authority_says None authority = Current authority
authority_says (Some name) authority = Declares name authority

-- what the line of a fact says, by the names of authorities
abbrev pub fact_says : NameOfKey → Fact → Saying
fact_says names (ListFact name header) = Blank
fact_says names (HeldFact (AuthorityFact authority)) = authority_says (names authority) authority
fact_says names (HeldFact (SerialsFact authority span)) =
    Under (RangeEntry authority span.lo span.hi)
fact_says names (HeldFact (ItemFact kinds.Id authority id)) =
    Under (item_entry kinds.Id authority id)
fact_says names (HeldFact (ItemFact kind authority bytes)) =
    Names (item_entry kind authority bytes)

-- The numbers of a header are below 2^64.
abbrev pub HasNumbers : Option Header → Type 0
HasNumbers None = ⊤
HasNumbers (Some header) = (header.version < 2 ^ 64) × (header.date < 2 ^ 64)

-- serial numbers: from 1 to 2^64-1, the last not below the first
pub record AreSerials (span : Span) : Type 0 where
  pub some : 0 < span.lo
  pub rises : span.lo ≤ span.hi
  pub fits : span.hi < 2 ^ 64

-- No byte of a key ID is zero. OpenSSH refuses a list that has one, and no line of a text gives
-- one.
abbrev pub HasNoZero : List ℕ → Type 0
HasNoZero id = has_zero id ≡ false

-- The authority has no name, or a line can give it the name, which no other key has yet.
abbrev pub CanDeclare : NamedKeys → (name : Option (List ℕ)) → (authority : List ℕ) → Type 0
CanDeclare known None authority = ⊤
CanDeclare known (Some name) authority =
    CanBeNamed name authority × (can_have known name authority ≡ true)

-- The authority is the current one, or the one that has this name.
abbrev pub IsUnder : Standing → (name : Option (List ℕ)) → (authority : List ℕ) → Type 0
IsUnder standing None authority = standing.current ≡ Some authority
IsUnder standing (Some name) authority =
    (is_name name ≡ true) × (key_named standing.names name ≡ Some authority)

-- The fact is about bytes and serial numbers. The authority of serial numbers and of a key ID is
-- the current one, or its name is known. No key ID has a zero byte.
abbrev pub FitsUnder : Standing → NameOfKey → Fact → Type 0
FitsUnder standing names (ListFact name header) = HasNumbers header
FitsUnder standing names (HeldFact (AuthorityFact authority)) =
    IsBytes authority × CanDeclare standing.names (names authority) authority
FitsUnder standing names (HeldFact (SerialsFact authority span)) =
    IsUnder standing (names authority) authority × AreSerials span
FitsUnder standing names (HeldFact (ItemFact kinds.Id authority id)) =
    IsUnder standing (names authority) authority × IsBytes id × HasNoZero id
FitsUnder standing names (HeldFact (ItemFact kinds.Key authority blob)) = IsBytes blob
FitsUnder standing names (HeldFact (ItemFact kinds.Sha1 authority hash)) =
    IsBytes hash × (length hash ≡ 20)
FitsUnder standing names (HeldFact (ItemFact kinds.Sha256 authority hash)) =
    IsBytes hash × (length hash ≡ 32)

-- The text is one line with its line feed, and the line says this.
pub record IsLineOf (standing : Standing) (text : List ℕ) (saying : Saying) : Type 0 where
  pub line : List ℕ
  pub split : slice_split is_newline text ≡ line ∷ [] ∷ []
  pub says : line_says standing line ≡ Ok saying
