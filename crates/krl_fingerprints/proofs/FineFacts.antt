-- The serial numbers of each fact are those of an interval.
use Rattle.std.proofs.Common.{◌≡◌, ℕ, ◌+◌, ◌≤◌, All, List, [], ◌∷◌, ◌++◌, map, arith, inl, inr, rules}
use Rattle.std.specs.List.{flat_map}
use Rattle.std.proofs.lemmas.List.Elements.{All-append, All-cons, All-head, All-map, All-tail}
use Rattle.serial_set.specs.BitRuns.{IsInterval}
use Rattle.serial_set.specs.Span.{AreSerials, RunsFrom}
use Rattle.serial_set.specs.declared.span.Span.{Span}
use Rattle.krl_types.specs.declared.item_kind.ItemKind.{ItemKind}
use Rattle.krl_types.specs.declared.item_kind.ItemKind.TheVariants as kinds
use Rattle.krl_entries.specs.Facts.{Fact, ItemFact, SerialsFact, facts_of, section_facts}
use Rattle.krl_entries.specs.Revocations.{IsOrderly, IsOrderlySection, Revocations, Section}
use Rattle.krl_fingerprints.specs.Facts.{IsFine}

none_fine : All IsFine []
none_fine = search rules

spans_fine : (authority : List ℕ) (least : ℕ) (spans : List Span) → RunsFrom least spans → AreSerials spans → All IsFine (map (SerialsFact authority) spans)
spans_fine authority least [] runs serials = none_fine
spans_fine authority least (span ∷ spans) runs serials =
    let first : IsInterval span = ((serials span.lo (inl (omega arith, runs.1))).0, runs.1) in
    All-cons IsFine (SerialsFact authority span) (map (SerialsFact authority) spans) first (spans_fine authority (span.hi + 2) spans runs.2 (λ s covered. serials s (inr covered)))

items_fine : (kind : ItemKind) (authority : List ℕ) (items : List (List ℕ)) → All IsFine (map (ItemFact kind authority) items)
items_fine kind authority [] = none_fine
items_fine kind authority (item ∷ items) = All-cons IsFine (ItemFact kind authority item) (map (ItemFact kind authority) items) tt (items_fine kind authority items)

section_fine : (section : Section) → IsOrderlySection section → All IsFine (section_facts section)
unfolding section_facts
section_fine section o =
    All-cons IsFine _ (map (SerialsFact section.authority) section.spans ++ map (ItemFact kinds.Id section.authority) section.ids) tt
    (All-append IsFine _ _ (spans_fine section.authority 0 section.spans o.runs o.serials) (items_fine kinds.Id section.authority section.ids))

sections_fine : (sections : List Section) → All IsOrderlySection sections → All IsFine (flat_map section_facts sections)
sections_fine [] listed = none_fine
sections_fine (section ∷ sections) listed =
    All-append IsFine (section_facts section) (flat_map section_facts sections) (section_fine section (All-head IsOrderlySection section sections listed))
    (sections_fine sections (All-tail IsOrderlySection section sections listed))

pub facts_fine : (r : Revocations) → IsOrderly r → All IsFine (facts_of r)
unfolding facts_of
facts_fine r o =
    All-append IsFine _ _ (sections_fine r.sections o.listed)
    (All-append IsFine _ _ (items_fine kinds.Key [] r.keys) (All-append IsFine _ _ (items_fine kinds.Sha1 [] r.sha1s) (items_fine kinds.Sha256 [] r.sha256s)))
