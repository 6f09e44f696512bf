-- A number has one magnitude, and fits in its bits.
use Rattle.std.proofs.Common.{◌≡◌, ℕ, suc, ◌+◌, ◌*◌, ◌^◌, ◌<◌, ◌≤◌, List, [], ◌∷◌, length, refl, sym, ap, ◌∙◌, arith}
use Rattle.std.proofs.lemmas.Nat.{pow-add, leading_top}
use Rattle.std.proofs.Math.Nat.{pow-suc, mul-le-mul_left}
use Rattle.ssh_wire.specs.Wire.{IsBytes, complement, mpint, number_of}
use Rattle.ssh_wire.proofs.Digits.{IsBytes-back, IsBytes-front, IsBytes-tail, bytes_as_bits}
use Rattle.ssh_wire.proofs.Fields.{IsBytes-in_string}
use Rattle.ssh_wire.proofs.Magnitudes.{IsBytes-complement, number_of-cons, number_of-lt, same_magnitude}
use Rattle.ssh_wire.specs.Rows.{IsPart, Magnitude, Part, Row, part_text, table_text}
use Rattle.ssh_wire.proofs.RowLaws.{AreParts}
use Rattle.ssh_key.specs.declared.fault.KeyFault.{KeyFault}
use Rattle.ssh_key.specs.Kind.{bit_count}
use Rattle.ssh_key.specs.Key.{IsPositive}
use Rattle.ssh_key.specs.Value.{SameValue, SameValues}

-- ---- parts of bytes are bytes

IsBytes-mpint : (m : List ℕ) → IsBytes (mpint m) → IsBytes m
unfolding mpint
IsBytes-mpint m h = IsBytes-complement m (IsBytes-in_string (complement m) h)

-- ---- values that are equal

value_same : (part : Part) (a b : List ℕ) → IsBytes (part_text part a) → IsBytes (part_text part b) → IsPart part a → IsPart part b → SameValue part a b → a ≡ b
value_same Magnitude a b h k p q same = same_magnitude a b (IsBytes-mpint a h) (IsBytes-mpint b k) p.0 q.0 same
value_same part a b h k p q same = same

pub values_same : (fields : List (Row KeyFault)) (left right : List (List ℕ)) → IsBytes (table_text fields left) → IsBytes (table_text fields right) → AreParts fields left → AreParts fields right → SameValues fields left right → left ≡ right
values_same [] [] [] h k p q same = refl
values_same [] (a ∷ left) right h k p q same = absurd p
values_same [] [] (b ∷ right) h k p q same = absurd q
values_same (field ∷ fields) [] right h k p q same = absurd p
values_same (field ∷ fields) (a ∷ left) [] h k p q same = absurd q
values_same (field ∷ fields) (a ∷ left) (b ∷ right) h k p q same =
    let first : a ≡ b = value_same field.part a b (IsBytes-front (part_text field.part a) (table_text fields left) h) (IsBytes-front (part_text field.part b) (table_text fields right) k) p.0 q.0 same.0 in
    let later : left ≡ right = values_same fields left right (IsBytes-back (part_text field.part a) (table_text fields left) h) (IsBytes-back (part_text field.part b) (table_text fields right) k) p.1 q.1 same.1 in
    cc (first, later)

-- ---- bits

pub bits_hold : (m : List ℕ) → IsBytes m → IsPositive m → (number_of m < 2 ^ bit_count m) × (2 ^ bit_count m ≤ 2 * number_of m)
bits_hold [] h p = absurd p
bits_hold (byte ∷ bytes) h p =
    let below : byte < 2 ^ 8 = h 0 in
    let top = leading_top 8 byte p below in
    let j : ℕ = top.0 in
    let count : bit_count (byte ∷ bytes) ≡ 8 * length bytes + suc j = omega (arith, top.1) in
    let size : 2 ^ bit_count (byte ∷ bytes) ≡ 256 ^ length bytes * 2 ^ suc j = ap (λ (k : ℕ). 2 ^ k) count ∙ pow-add 2 (8 * length bytes) (suc j) ∙ ap (λ (q : ℕ). q * 2 ^ suc j) (sym (bytes_as_bits (length bytes))) in
    let rest : number_of bytes < 256 ^ length bytes = number_of-lt bytes (IsBytes-tail byte bytes h) in
    let high : byte + 1 ≤ 2 ^ suc j = let lt : byte < 2 ^ suc j = top.3 in omega arith in
    let low : 2 ^ suc j ≤ 2 * byte = omega (arith, top.2, pow-suc 2 j) in
    let whole = number_of-cons byte bytes in
    (omega (arith, whole, size, rest, mul-le-mul_left (256 ^ length bytes) high), omega (arith, whole, size, mul-le-mul_left (256 ^ length bytes) low))
