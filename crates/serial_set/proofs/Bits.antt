-- Which serials the bits of a number name.
use Rattle.serial_set.proofs.Common.{◌%◌, ◌*◌, ◌+◌, ◌-◌, ◌<◌, ◌^◌, ◌∙◌, ◌≡◌, ◌≤◌, ◌⊎◌, ap, arith}
use Rattle.serial_set.proofs.Common.{bit_at, bit_at_above, bit_at_cat_high, bit_at_cat_low}
use Rattle.serial_set.proofs.Common.{BitNames, cases_lt, inl, inr, pow-suc, subst, suc, sym, ℕ}
use lib.Count.{count_leading_zeros}
use Rattle.std.proofs.Math.Nat.{div-eq_of_lt-le}
use Rattle.std.proofs.lemmas.Nat.{leading_top}

zero_is_not_one : (n : ℕ) → n ≡ 0 → n ≡ 1 → ⊥
zero_is_not_one n a b = omega arith

-- a number from 2 ^ j up to twice that has bit j set
top_bit : (j a : ℕ) → 2 ^ j ≤ a → a < 2 ^ suc j → bit_at a j ≡ 1
top_bit j a h k =
    let one_in : 1 * 2 ^ j ≤ a = omega arith in
    let double : 2 ^ suc j ≡ 2 ^ j * 2 = pow-suc 2 j in
    let below_two : a < (1 + 1) * 2 ^ j = omega arith in
    ap (λ q. q % 2) (div-eq_of_lt-le {k = 1} (2 ^ j) {m = a} one_in below_two)

-- a set bit is at most the highest
pub bit_below : (byte k i : ℕ) → byte < 2 ^ k → bit_at byte i ≡ 1 → i < k
bit_below byte k i h b =
    elim (cases_lt i k) [
      | inl below ↦ below
      | inr above ↦ absurd (zero_is_not_one _ (bit_at_above byte k i h above) b)
    ]

pub highest_bit : (byte z : ℕ) → 0 < byte → byte < 2 ^ 8 → z ≡ count_leading_zeros 8 byte
    → (bit_at byte (7 - z) ≡ 1) × ((i : ℕ) → bit_at byte i ≡ 1 → i ≤ 7 - z)
highest_bit byte z h k e =
    let top = leading_top 8 byte h k in
    let position : 7 - z ≡ top.0 = omega (arith, top.1) in (
      subst (λ i. bit_at byte i ≡ 1) (sym position) (top_bit top.0 byte top.2 top.3),
      λ i b. omega (arith, bit_below byte (suc top.0) i top.3 b),
    )

-- one more byte: its eight bits are the lowest, and the others move up by eight
pub BitNames-split : (base bits byte s : ℕ) → byte < 256 → BitNames base (bits * 256 + byte) s
    → BitNames (base + 8) bits s ⊎ BitNames base byte s
BitNames-split base bits byte s h n =
    elim (cases_lt (s - base) 8) [
      | inl low ↦ inr (n.0, n.1, sym (bit_at_cat_low bits 8 byte (s - base) low) ∙ n.2)
      | inr high ↦ (
          let position : s - base - 8 ≡ s - (base + 8) = omega arith in
          inl (
            n.0,
            omega arith,
            ap (λ i. bit_at bits i) (sym position)
                ∙ sym (bit_at_cat_high bits 8 byte (s - base) h high) ∙ n.2,
          ))
    ]

pub BitNames-join : (base bits byte s : ℕ) → byte < 256
    → BitNames (base + 8) bits s ⊎ BitNames base byte s → BitNames base (bits * 256 + byte) s
BitNames-join base bits byte s h n =
    elim n [
      | inl up ↦ (
          let position : s - base - 8 ≡ s - (base + 8) = omega arith in (
            up.0,
            omega arith,
            bit_at_cat_high bits 8 byte (s - base) h (omega arith)
                ∙ ap (λ i. bit_at bits i) position ∙ up.2,
          ))
      | inr here ↦ (
          let low : s - base < 8 = bit_below byte 8 (s - base) h here.2 in
          (here.0, here.1, bit_at_cat_low bits 8 byte (s - base) low ∙ here.2))
    ]
