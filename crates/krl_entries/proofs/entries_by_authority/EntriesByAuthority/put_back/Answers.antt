use Rattle.std.proofs.Common.{sym}
use Rattle.krl_entries.proofs.SeparateSections.{puts_back, puts_nowhere}
use Rattle.krl_entries.proofs.SectionChanges.{sorted_rises}
use Rattle.krl_entries.proofs.entries_by_authority.EntriesByAuthority.put_back.Goals as goal

pub invariant_of-self : goal.invariant_of-self
invariant_of-self g c = sorted_rises (c.get_mut.follows.lender c.args.apart.section).entries (c.get_mut.follows.holds c.args.apart.section).4

pub returns-in-Some : goal.returns-in-Some
returns-in-Some g c =
    let is = rw c.as_slice.ensures.value at (c.get_mut.follows.holds c.args.apart.section).0 in
    rw (← c.self.view_is) (puts_back g.S.Spans.spans c.args.apart.name.items c.args.apart.section c.self.inside.map.entries (c.get_mut.follows.lender c.args.apart.section).entries is)

pub returns : goal.returns
returns g c =
    rw (c.get_mut.follows.holds-at-none, ← c.self.view_is)
    (puts_nowhere g.S.Spans.spans c.args.apart.name.items c.args.apart.section c.self.inside.map.entries (sym (rw c.as_slice.ensures.value at c.in_default.ensures.value)))
