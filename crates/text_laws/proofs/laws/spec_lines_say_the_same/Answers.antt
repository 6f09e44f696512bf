use Rattle.text_laws.proofs.SpecLines.{directive_says, key_says}
use Rattle.text_laws.proofs.laws.spec_lines_say_the_same.Goals as goal

pub returns-clause-directives : goal.returns-clause-directives
returns-clause-directives c standing line given directive found is placed = directive_says standing line given directive found is placed

pub returns-clause-keys : goal.returns-clause-keys
returns-clause-keys c standing line none alike placed = key_says standing line none alike placed
