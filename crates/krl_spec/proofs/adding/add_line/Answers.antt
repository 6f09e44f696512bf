-- The content of a line has no more bytes than the line.
use Rattle.std.proofs.Common.{ap, length, arith}
use Rattle.krl_spec.proofs.Growth.{grows_more}
use Rattle.krl_spec.proofs.Sizes.{length-bare_line}
use Rattle.krl_spec.proofs.adding.add_line.Goals as goal

pub returns-clause-grows : goal.returns-clause-grows
returns-clause-grows g c = grows_more _ _ _ _ _ (omega (arith, ap length c.bare_line-text.ensures, length-bare_line c.args.line.now)) c.add_text.ensures.grows
