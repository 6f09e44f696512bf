use Rattle.krl_entries.proofs.Common.{AddsTo, named_sections, sections_of, subst, sym}
use Rattle.krl_entries.proofs.SectionChanges.{adds, sorted_rises, starts}
use Rattle.krl_entries.proofs.entries_by_authority.EntriesByAuthority.add.Goals as goal

pub invariant_of-self : goal.invariant_of-self
invariant_of-self g c = sorted_rises (c.get_mut.follows.lender c.add.new.self).entries (c.get_mut.follows.holds c.add.new.self).4

pub returns-in-Some : goal.returns-in-Some
returns-in-Some g c =
    let a = c.args.authority.now in
    let is = (c.get_mut.follows.holds c.add.new.self).0 in
    let both = adds g.S.Spans.spans c.args.addition a c.add.result c.in-Some.section.now c.add.new.self c.self.inside.map.entries (c.get_mut.follows.lender c.add.new.self).entries (sym c.in-Some.ensures.value) is (c.add.ensures a) in
    rw (← c.self.view_is) (record { ok = both.0; refused = both.1 })

pub invariant_of-self-2 : goal.invariant_of-self-2
invariant_of-self-2 g c = sorted_rises c.insert.new.self.entries c.insert.ensures.ordered

pub returns-clause-ok : goal.returns-clause-ok
returns-clause-ok g c =
    let name = c.in_ok-name.name in
    let old = c.self.inside.map.entries in
    let new = c.insert.new.self.entries in
    let bytes = c.in_ok-name.ensures.items in
    let is = rw c.get_mut.follows.holds-at-none at c.in_ok-insert.ensures.entries in
    rw (← c.self.view_is)
    (subst (λ a. AddsTo c.args.addition a (sections_of g.S.Spans.spans (named_sections old)) (sections_of g.S.Spans.spans (named_sections new))) bytes
    (starts g.S.Spans.spans c.args.addition name c.in_ok-section.section old new (rw bytes (sym c.in_default.ensures.value)) is (sorted_rises new c.insert.ensures.ordered) (c.in_ok-section.ensures name.items)))
