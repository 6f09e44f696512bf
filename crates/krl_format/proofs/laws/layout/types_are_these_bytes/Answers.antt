use Rattle.krl_format.proofs.Layouts.{these_types}
use Rattle.krl_format.proofs.laws.layout.types_are_these_bytes.Goals as goal

pub returns : goal.returns
returns c = these_types
