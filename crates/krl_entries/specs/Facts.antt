-- The facts about all stored entries, in order: each authority with its serial numbers and key IDs,
-- and then keys and hashes.
use Rattle.std.specs.Prelude.{ℕ, List, [], ◌∷◌, ◌++◌, map}
use Rattle.std.specs.List.{flat_map}
use Rattle.serial_set.specs.declared.span.Span.{Span}
use Rattle.krl_types.specs.declared.item_kind.ItemKind.{ItemKind}
use Rattle.krl_types.specs.declared.item_kind.ItemKind.TheVariants as kinds
use Rattle.krl_entries.specs.Revocations.{Revocations, Section}
use Rattle.krl_entries.specs.declared.facts.Fact.{Fact as FactOf}
use Rattle.krl_entries.specs.declared.facts.Fact.TheVariants as facts

-- A fact about stored entries. An authority is given by its bytes, and no bytes mean all
-- authorities.
pub data Fact : Type 0 where
  -- the authority of the serial numbers and key IDs that follow
  AuthorityFact : (authority : List ℕ) → Fact
  -- the serial numbers of a span, under an authority
  SerialsFact : (authority : List ℕ) → Span → Fact
  -- a key ID under an authority; a key or a hash of one, whose authority has no bytes
  ItemFact : ItemKind → (authority bytes : List ℕ) → Fact

-- an authority, its serial numbers and its key IDs
unfoldable pub section_facts : Section → List Fact
section_facts section =
    AuthorityFact section.authority
    ∷ (map (SerialsFact section.authority) section.spans
    ++ map (ItemFact kinds.Id section.authority) section.ids)

-- everything that is stored
unfoldable pub facts_of : Revocations → List Fact
facts_of held =
    flat_map section_facts held.sections
    ++ (map (ItemFact kinds.Key []) held.keys
    ++ (map (ItemFact kinds.Sha1 []) held.sha1s ++ map (ItemFact kinds.Sha256 []) held.sha256s))

-- the facts that are left: about the current authority, and about everything after it
abbrev pub facts_left : (authority : List ℕ) → List Span → (ids : List (List ℕ)) → Revocations
    → List Fact
facts_left authority spans ids rest =
    map (SerialsFact authority) spans ++ (map (ItemFact kinds.Id authority) ids ++ facts_of rest)

-- a fact, as the code has it
abbrev pub fact_of : FactOf → Fact
fact_of (facts.Authority authority) = AuthorityFact authority.now
fact_of (facts.Serials authority span) = SerialsFact authority.now span
fact_of (facts.Item kind authority bytes) = ItemFact kind authority.now bytes.now
