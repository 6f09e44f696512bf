-- The serials are added under the current authority.
use Rattle.std.proofs.Common.{refl}
use Rattle.krl_spec.proofs.entries.add_serials.Goals as goal

pub returns-clause-adds : goal.returns-clause-adds
returns-clause-adds g c = (_, rw (c.in_ok-authority.ensures, ← c.in_ok-serials.ensures.exact) refl, c.in_ok-add_serials.ensures.means, c.in_ok-add_serials.ensures.held)
