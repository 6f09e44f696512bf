use Rattle.curve_points.specs.Curves.{IsOnCurve, is_on}
use Rattle.curve_points.specs.Numbers.{big_endian}
use Rattle.openssh_keys.proofs.Tests.{same_test}
use Rattle.openssh_keys.proofs.point.is_on.Goals as goal

pub returns : goal.returns
returns c =
    let x = big_endian c.args.x.now in
    let y = big_endian c.args.y.now in
    let decides = c.is_on_curve.ensures in
    same_test c.is_on_curve.result (is_on c.args.curve x y) (IsOnCurve c.args.curve x y)
    (λ is. (decides.0 is).2, λ on. decides.1 (c.requires.x_width, c.requires.y_width, on))
    (c.points_are_decided.ensures.on c.args.curve x y)
