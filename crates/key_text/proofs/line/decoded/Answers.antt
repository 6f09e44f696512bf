use Rattle.std.proofs.Common.{rules}
use Rattle.key_text.specs.LineReading.{decoded}
use Rattle.key_text.proofs.line.decoded.Goals as goal

pub returns-clause-exact : goal.returns-clause-exact
unfolding decoded
returns-clause-exact c = search rules steps 3000000
