-- The curves of SP 800-186 section 3.2.1, and the points on them.
use Rattle.std.specs.Prelude.{◌≡◌, ℕ, ◌+◌, ◌-◌, ◌*◌, ◌%◌, ◌^◌, ◌<◌, ◌≤◌, ◌==◌, ◌&&◌, Bool, nat_le}
use Rattle.std.specs.Prelude.{nat_lt}
use Rattle.curve_points.specs.declared.curve.Curve.{Curve}
use Rattle.curve_points.specs.declared.curve.Curve.TheVariants.{P256, P384, P521}

-- how many bytes spell a coordinate
abbrev pub width : Curve → ℕ
width P256 = 32
width P384 = 48
width P521 = 66

-- the prime that the curve is modulo
unfoldable pub prime : Curve → ℕ
prime P256 = 2 ^ 256 - 2 ^ 224 + 2 ^ 192 + 2 ^ 96 - 1
prime P384 = 2 ^ 384 - 2 ^ 128 - 2 ^ 96 + 2 ^ 32 - 1
prime P521 = 2 ^ 521 - 1

-- the constant of the curve's equation
unfoldable pub constant : Curve → ℕ
constant P256 = 0x5ac6_35d8_aa3a_93e7_b3eb_bd55_7698_86bc_651d_06b0_cc53_b0f6_3bce_3c3e_27d2_604b
constant P384 = 0xb331_2fa7_e23e_e7e4_988e_056b_e3f8_2d19_181d_9c6e_fe81_4112_0314_088f_5013_875a_c656_398d_8a2e_d19d_2a85_c8ed_d3ec_2aef
constant P521 = 0x0051_953e_b961_8e1c_9a1f_929a_21a0_b685_40ee_a2da_725b_99b3_15f3_b8b4_8991_8ef1_09e1_5619_3951_ec7e_937b_1652_c0bd_3bb1_bf07_3573_df88_3d2c_34f1_ef45_1fd4_6b50_3f00

-- y² is x³ - 3x + the constant, modulo the prime
abbrev pub Holds : Curve → ℕ → ℕ → Type 0
Holds curve x y =
    (y * y + 3 * x) % prime curve ≡ (x * x * x + constant curve) % prime curve

-- x and y are the coordinates of a point on the curve
abbrev pub IsOnCurve : Curve → ℕ → ℕ → Type 0
IsOnCurve curve x y = (x < prime curve) × (y < prime curve) × Holds curve x y

-- the same as a test
abbrev pub is_on : Curve → (x y : ℕ) → Bool
is_on curve x y =
    nat_lt x (prime curve) && (nat_lt y (prime curve)
    && ((y * y + 3 * x) % prime curve == (x * x * x + constant curve) % prime curve))

-- ---- the coordinates that OpenSSH accepts (its function sshkey_ec_validate_public)

-- the number of points of the curve
unfoldable pub order : Curve → ℕ
order P256 = 0xffff_ffff_0000_0000_ffff_ffff_ffff_ffff_bce6_faad_a717_9e84_f3b9_cac2_fc63_2551
order P384 = 0xffff_ffff_ffff_ffff_ffff_ffff_ffff_ffff_ffff_ffff_ffff_ffff_c763_4d81_f437_2ddf_581a_0db2_48b0_a77a_ecec_196a_ccc5_2973
order P521 = 0x01ff_ffff_ffff_ffff_ffff_ffff_ffff_ffff_ffff_ffff_ffff_ffff_ffff_ffff_ffff_ffff_fffa_5186_8783_bf2f_966b_7fcc_0148_f709_a5d0_3bb5_c9b8_899c_47ae_bb6f_b71e_9138_6409

-- the least number that has more than half as many bits as the order
unfoldable pub least : Curve → ℕ
least P256 = 2 ^ 128
least P384 = 2 ^ 192
least P521 = 2 ^ 260

-- A coordinate has more than half as many bits as the order, and is below the order less one.
abbrev pub IsUsual : Curve → ℕ → Type 0
IsUsual curve n = (least curve ≤ n) × (n < order curve - 1)

-- the same as a test
abbrev pub is_usual : Curve → ℕ → Bool
is_usual curve n = nat_le (least curve) n && nat_lt n (order curve - 1)
