-- The content is what is before the comment, without the blanks around it.
use Rattle.std.proofs.Common.{rules}
use Rattle.krl_spec.specs.Blanks.{bare_line}
use Rattle.krl_spec.proofs.blanks.bare_line.Goals as goal

pub returns : goal.returns
unfolding bare_line
returns c = search rules steps 300000
