use Rattle.std.proofs.Common.{length, ap, arith, rules}
use Rattle.key_text.specs.KeyFile.{has_key}
use Rattle.key_text.proofs.TrimmedTexts.{length-trimmed}
use Rattle.key_text.proofs.key_file.has_key.Goals as goal

pub returns-in_default-clause-some : goal.returns-in_default-clause-some
returns-in_default-clause-some c = λ _. omega (arith, ap length c.trimmed.ensures, length-trimmed c.args.line.now, c.in_default.len_at_least)

pub returns-in_default-clause-value : goal.returns-in_default-clause-value
unfolding has_key
returns-in_default-clause-value c = search rules steps 300000
