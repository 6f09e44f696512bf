use Rattle.std.proofs.Common.{◌∙◌, arith}
use Rattle.openssh_keys.proofs.Points.{whole_point}
use Rattle.openssh_keys.proofs.point.is_valid_point.Goals as goal

pub returns : goal.returns
returns c =
    c.are_valid.ensures
    ∙ whole_point c.args.curve c.width-width.result c.args.point.now _ _ c.width-width.ensures
    (omega (arith, c.if-point-width.false)) c.split_at.ensures.front c.split_at.ensures.back
