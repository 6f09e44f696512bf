-- The coordinates of an uncompressed point.
use Rattle.std.proofs.Common.{◌≡◌, ℕ, ◌+◌, ◌-◌, ◌*◌, ◌==◌, true, List, length, take, drop, refl, arith, length-drop}
use Rattle.std.proofs.lemmas.Bool.{eq-eqb}
use Rattle.std.proofs.lemmas.List.{take_all}
use Rattle.curve_points.specs.Curves.{width}
use Rattle.curve_points.specs.Numbers.{big_endian}
use Rattle.curve_points.specs.declared.curve.Curve.{Curve}
use Rattle.openssh_keys.specs.Judgement.{are_valid, is_valid_point}

-- They are the two halves of what follows the first byte.
pub whole_point : (curve : Curve) (size : ℕ) (point x y : List ℕ) → size ≡ width curve → length point ≡ 1 + 2 * size
    → x ≡ take size (take (length point - 1) (drop 1 point)) → y ≡ drop size (take (length point - 1) (drop 1 point))
    → are_valid curve (big_endian x) (big_endian y) ≡ is_valid_point curve point
whole_point curve size point x y is whole x_is y_is =
    let test : (length point == 1 + 2 * width curve) ≡ true = eq-eqb (length point) (1 + 2 * width curve) (omega (arith, is, whole)) in
    let rest : take (length point - 1) (drop 1 point) ≡ drop 1 point = take_all (length point - 1) (drop 1 point) (omega (arith, length-drop 1 point)) in
    rw (x_is, y_is, rest, is, test) refl
