-- The key ID is added under the current authority.
use Rattle.std.proofs.Common.{arith, rules}
use Rattle.krl_types.specs.Entry.{IdEntry}
use Rattle.krl_spec.proofs.entries.add_id.Goals as goal

pub returns-clause-adds : goal.returns-clause-adds
returns-clause-adds g c =
    (IdEntry c.in_ok-authority.authority.now c.args.given.now, search rules, c.in_ok-add_id.ensures.means, omega (arith, c.in_ok-add_id.ensures.held))
