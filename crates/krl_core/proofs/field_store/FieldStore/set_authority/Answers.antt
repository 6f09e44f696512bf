use Rattle.std.proofs.Common.{rules}
use Rattle.krl_core.proofs.field_store.FieldStore.set_authority.Goals as goal

pub returns-clause-set : goal.returns-clause-set
returns-clause-set g c = search rules steps 1000000
