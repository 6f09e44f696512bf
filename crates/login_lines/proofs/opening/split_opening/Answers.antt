use Rattle.std.proofs.Common.{refl}
use Rattle.login_lines.specs.Openings.{opening_at}
use Rattle.login_lines.proofs.opening.split_opening.Goals as goal

pub returns : goal.returns
unfolding opening_at
returns c = rw (← c.in_default.ensures.after, ← c.in_default-after.ensures.after, ← c.in_ok-text.ensures.after) refl
