use Rattle.krl_entries.proofs.Common.{AddsTo, named_sections, sections_of, subst, sym}
use Rattle.krl_entries.proofs.SeparateSections.{takes}
use Rattle.krl_entries.proofs.SectionChanges.{sorted_rises, starts}
use Rattle.krl_entries.proofs.entries_by_authority.EntriesByAuthority.take.Goals as goal

pub invariant_of-self : goal.invariant_of-self
invariant_of-self g c = sorted_rises (c.get_mut.follows.lender c.take.new.self).entries (c.get_mut.follows.holds c.take.new.self).4

pub returns-in-Some : goal.returns-in-Some
returns-in-Some g c =
    let a = c.args.authority.now in
    let is = (c.get_mut.follows.holds c.take.new.self).0 in
    let both = takes g.S.Spans.spans c.args.addition a c.take.result c.in-Some.section.now c.take.new.self c.self.inside.map.entries (c.get_mut.follows.lender c.take.new.self).entries (sym c.in-Some.ensures.value) is c.take.ensures in
    rw (← c.self.view_is) (record { ok = both.0; refused = both.1 })

pub invariant_of-self-2 : goal.invariant_of-self-2
invariant_of-self-2 g c = sorted_rises c.insert.new.self.entries c.insert.ensures.ordered

pub returns-clause-ok : goal.returns-clause-ok
returns-clause-ok g c =
    let name = c.in_ok-name.name in
    let old = c.self.inside.map.entries in
    let new = c.insert.new.self.entries in
    let bytes = c.in_ok-name.ensures.items in
    let is = rw c.get_mut.follows.holds-at-none at c.in_ok-insert.ensures.entries in
    rw (← c.self.view_is)
    (subst (λ a. AddsTo c.args.addition a (sections_of g.S.Spans.spans (named_sections old)) (sections_of g.S.Spans.spans (named_sections new))) bytes
    (starts g.S.Spans.spans c.args.addition name c.in_ok-section.section old new (rw bytes (sym c.in_default.ensures.value)) is (sorted_rises new c.insert.ensures.ordered) (c.in_ok-section.ensures name.items)))
