-- All runs are left.
use Rattle.krl_entries.proofs.SerialsLeft.{all_left}
use Rattle.krl_entries.proofs.serials.Serials.of.Goals as goal

pub returns : goal.returns
returns g c = all_left (g.S.Spans.spans c.args.set.now) _ (g.met.S.Spans.law c.args.set.now).0 c.none.ensures
