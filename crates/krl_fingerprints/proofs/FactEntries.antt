-- The facts about what is held name what is held.
use Rattle.std.proofs.Common.{◌≡◌, ℕ, List, [], ◌∷◌, ◌++◌, map, refl, ◌∙◌}
use Rattle.std.specs.List.{flat_map}
use Rattle.std.proofs.lemmas.List.Concat.{flat_map-append}
use Rattle.serial_set.specs.declared.span.Span.{Span}
use Rattle.krl_types.specs.Entry.{Entry}
use Rattle.krl_types.specs.Item.{item_entry}
use Rattle.krl_types.specs.declared.item_kind.ItemKind.{ItemKind}
use Rattle.krl_types.specs.declared.item_kind.ItemKind.TheVariants as kinds
use Rattle.krl_entries.specs.Canonical.{entries_in, section_entries}
use Rattle.krl_entries.specs.Changes.{run_entries}
use Rattle.krl_entries.specs.Facts.{Fact, ItemFact, SerialsFact, facts_of, section_facts}
use Rattle.krl_entries.specs.Revocations.{Revocations, Section}
use Rattle.krl_fingerprints.specs.Facts.{fact_entries}

abbrev pub entries_of : List Fact → List Entry
entries_of facts = flat_map fact_entries facts

spans_entries : (authority : List ℕ) (spans : List Span) → entries_of (map (SerialsFact authority) spans) ≡ run_entries authority spans
spans_entries authority [] = refl
spans_entries authority (span ∷ spans) = rw (spans_entries authority spans) refl

items_entries : (kind : ItemKind) (authority : List ℕ) (items : List (List ℕ))
    → entries_of (map (ItemFact kind authority) items) ≡ map (item_entry kind authority) items
items_entries kind authority [] = refl
items_entries kind authority (item ∷ items) = rw (items_entries kind authority items) refl

section_is : (section : Section) → entries_of (section_facts section) ≡ section_entries section
unfolding section_facts
section_is section =
    flat_map-append fact_entries (map (SerialsFact section.authority) section.spans) (map (ItemFact kinds.Id section.authority) section.ids)
    ∙ rw (spans_entries section.authority section.spans, items_entries kinds.Id section.authority section.ids) refl

sections_are : (sections : List Section) → entries_of (flat_map section_facts sections) ≡ flat_map section_entries sections
sections_are [] = refl
sections_are (section ∷ sections) =
    flat_map-append fact_entries (section_facts section) (flat_map section_facts sections) ∙ rw (section_is section, sections_are sections) refl

pub facts_are : (r : Revocations) → entries_of (facts_of r) ≡ entries_in r
unfolding facts_of
facts_are r =
    let keys : List Fact = map (ItemFact kinds.Key []) r.keys in
    let sha1s : List Fact = map (ItemFact kinds.Sha1 []) r.sha1s in
    let sha256s : List Fact = map (ItemFact kinds.Sha256 []) r.sha256s in
    flat_map-append fact_entries (flat_map section_facts r.sections) (keys ++ (sha1s ++ sha256s))
    ∙ rw (
      sections_are r.sections,
      flat_map-append fact_entries keys (sha1s ++ sha256s),
      flat_map-append fact_entries sha1s sha256s,
      items_entries kinds.Key [] r.keys,
      items_entries kinds.Sha1 [] r.sha1s,
      items_entries kinds.Sha256 [] r.sha256s,
    ) refl
