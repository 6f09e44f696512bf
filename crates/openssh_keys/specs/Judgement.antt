-- The judgement of OpenSSH on a key, by its public fields.
use Rattle.std.specs.Prelude.{ℕ, zero, suc, ◌+◌, ◌*◌, ◌==◌, ◌&&◌, ◌||◌, nat_lt, if◌then◌else◌, Bool}
use Rattle.std.specs.Prelude.{false, List, [], length, take, drop, Result, Ok, Err}
use Rattle.ssh_wire.specs.Reading.{mpint_at, string_at}
use Rattle.ssh_wire.specs.declared.fault.WireFault.{WireFault}
use Rattle.ssh_key.specs.Key.{PublicKey}
use Rattle.ssh_key.specs.declared.kind.Kind.{Kind}
use Rattle.ssh_key.specs.declared.kind.Kind.TheVariants as kinds
use Rattle.curve_points.specs.Curves.{is_on, is_usual, width}
use Rattle.curve_points.specs.Numbers.{big_endian}
use Rattle.curve_points.specs.declared.curve.Curve.{Curve}
use Rattle.curve_points.specs.declared.curve.Curve.TheVariants.{P256, P384, P521}
use Rattle.openssh_keys.specs.declared.judgement.Judgement.{Judgement}
use Rattle.openssh_keys.specs.declared.judgement.Judgement.TheVariants as judgements

-- ---- numbers

-- how many numbers are the public fields of a key
abbrev pub number_count : Kind → ℕ
number_count kinds.Rsa = 2
number_count kinds.Dsa = 4
number_count kind = 0

-- More than 2,048 bytes without a leading zero byte are more than 16,384 bits.
abbrev pub is_long : List ℕ → Bool
is_long magnitude = nat_lt 2048 (length magnitude)

-- The number is long, or one of those behind it.
abbrev pub long_or
    : (List ℕ → Bool) → Result (List ℕ × List ℕ) WireFault → Bool
long_or later (Ok (magnitude, rest)) = is_long magnitude || later rest
long_or later (Err fault) = false

-- one of this many numbers at the front is long
unfoldable pub has_long_number : ℕ → List ℕ → Bool
has_long_number zero bytes = false
has_long_number (suc count) bytes = long_or (has_long_number count) (mpint_at bytes)

-- ---- points

abbrev pub first_of : Result (List ℕ × List ℕ) WireFault → List ℕ
first_of (Ok (value, rest)) = value
first_of (Err fault) = []

abbrev pub second_of : Result (List ℕ × List ℕ) WireFault → List ℕ
second_of (Ok (value, rest)) = first_of (string_at rest)
second_of (Err fault) = []

-- the second string of the public fields of a key of ECDSA
abbrev pub point_of : List ℕ → List ℕ
point_of fields = second_of (string_at fields)

abbrev pub are_valid : Curve → (x y : ℕ) → Bool
are_valid curve x y = (is_on curve x y && is_usual curve x) && is_usual curve y

-- an uncompressed point: a byte, and then its coordinates, the highest byte of each first
abbrev pub is_valid_point : Curve → List ℕ → Bool
is_valid_point curve point =
    (length point == 1 + 2 * width curve)
    && are_valid curve (big_endian (take (width curve) (drop 1 point)))
    (big_endian (drop (width curve) (drop 1 point)))

abbrev pub has_valid_point : Curve → List ℕ → Bool
has_valid_point curve fields = is_valid_point curve (point_of fields)

-- ---- keys

abbrev pub point_judgement : Curve → List ℕ → Judgement
point_judgement curve fields =
    if has_valid_point curve fields then judgements.Accepted else judgements.Point

-- the judgement on a key of this size that has no long number
abbrev pub judged : Kind → ℕ → List ℕ → Judgement
judged kinds.Rsa bits fields =
    if nat_lt bits 1024 then judgements.Short else judgements.Accepted
judged kinds.Dsa bits fields = judgements.Accepted
judged kinds.Ecdsa256 bits fields = point_judgement P256 fields
judged kinds.Ecdsa384 bits fields = point_judgement P384 fields
judged kinds.Ecdsa521 bits fields = point_judgement P521 fields
judged kinds.Ed25519 bits fields = judgements.Accepted
judged kinds.EcdsaSk bits fields = point_judgement P256 fields
judged kinds.Ed25519Sk bits fields = judgements.Accepted

unfoldable pub judgement_of : PublicKey → Judgement
judgement_of key =
    if has_long_number (number_count key.kind) key.fields then judgements.Long
    else judged key.kind key.bits key.fields
