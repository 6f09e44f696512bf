use Rattle.krl_entries.proofs.SectionChanges.{found}
use Rattle.krl_entries.proofs.entries_by_authority.EntriesByAuthority.find.Goals as goal

pub returns : goal.returns
returns g c =
    rw (← c.self.view_is) (found g.S.Spans.spans c.get.result c.args.authority.now c.self.inside.map.entries c.self.invariant c.get.ensures.value)
