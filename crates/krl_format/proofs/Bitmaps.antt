-- A bitmap, byte by byte.
use Rattle.krl_format.proofs.Common.{[], ◌*◌, ◌+◌, ◌-◌, ◌<◌, ◌^◌, ◌∙◌, ◌∷◌, ◌≡◌, ◌≤◌, ◌⊎◌, ap, arith}
use Rattle.krl_format.proofs.Common.{big_endian, bit_at, bit_at-zero, bit_at_above, bit_at_cat_high}
use Rattle.krl_format.proofs.Common.{bit_at_cat_low, BitmapEntry, bytes_as_bits, cases_lt, inl, inr}
use Rattle.krl_format.proofs.Common.{length, List, mul-le-mul_right, NamesSame, number_of, pow-add}
use Rattle.krl_format.proofs.Common.{refl, same_nothing, same_serials, subst, sym, ℕ}
use Rattle.ssh_wire.proofs.Magnitudes.{number_of-cons}

-- a bitmap that is fed byte by byte has the number of the wire format
pub bitmap_number : (bytes : List ℕ) → big_endian bytes ≡ number_of bytes
unfolding number_of
bitmap_number [] = refl
bitmap_number (byte ∷ bytes) =
    ap (λ (m : ℕ). byte * 256 ^ length bytes + m) (bitmap_number bytes) ∙ sym (number_of-cons byte bytes)

pub number_of-byte : (b : ℕ) (bits : List ℕ) → number_of (b ∷ bits) ≡ b * 2 ^ (8 * length bits) + number_of bits
number_of-byte b bits = number_of-cons b bits ∙ ap (λ (m : ℕ). b * m + number_of bits) (bytes_as_bits (length bits))

pub low_more : (b : ℕ) (bits : List ℕ) → b < 256 → number_of bits < 2 ^ (8 * length bits) → number_of (b ∷ bits) < 2 ^ (8 * length (b ∷ bits))
low_more b bits byte low =
    let e : 8 * length (b ∷ bits) ≡ 8 + 8 * length bits = omega arith in
    let p : 2 ^ (8 * length (b ∷ bits)) ≡ 256 * 2 ^ (8 * length bits) = ap (λ (m : ℕ). 2 ^ m) e ∙ pow-add 2 8 (8 * length bits) in
    let n = number_of-byte b bits in
    let k : b * 2 ^ (8 * length bits) ≤ 255 * 2 ^ (8 * length bits) = mul-le-mul_right (2 ^ (8 * length bits)) (let le : b ≤ 255 = omega arith in le) in
    omega (arith, n, p, low, k)

pub low_none : number_of [] < 2 ^ (8 * length {A = ℕ} [])
unfolding number_of
low_none = omega arith

-- the bits of a byte, and those of the bytes after it
pub bit_of-byte : (b : ℕ) (bits : List ℕ) (k : ℕ) → number_of bits < 2 ^ (8 * length bits) → bit_at (number_of (b ∷ bits)) k ≡ 1
    → ((8 * length bits ≤ k) × (bit_at b (k - 8 * length bits) ≡ 1)) ⊎ (bit_at (number_of bits) k ≡ 1)
bit_of-byte b bits k low bit =
    let n = 8 * length bits in
    let whole : bit_at (b * 2 ^ n + number_of bits) k ≡ 1 = subst (λ (m : ℕ). bit_at m k ≡ 1) (number_of-byte b bits) bit in
    elim (cases_lt k n) [
      | inl lt ↦ inr (sym (bit_at_cat_low b n (number_of bits) k lt) ∙ whole)
      | inr le ↦ inl (le, sym (bit_at_cat_high b n (number_of bits) k low le) ∙ whole)
    ]

-- a bitmap without bytes names no serial numbers
pub same_no_bits : (a : List ℕ) (offset : ℕ) → NamesSame [] (BitmapEntry a offset (number_of []) ∷ [])
unfolding number_of
same_no_bits a offset = same_nothing (BitmapEntry a offset 0) tt (λ c s k. let z = bit_at-zero (s - offset) in omega (arith, z, k.1.2))

pub same_bits : (a : List ℕ) (offset b : ℕ) (bits : List ℕ) → b < 256 → number_of bits < 2 ^ (8 * length bits)
    → NamesSame (BitmapEntry a (offset + 8 * length bits) b ∷ BitmapEntry a offset (number_of bits) ∷ []) (BitmapEntry a offset (number_of (b ∷ bits)) ∷ [])
same_bits a offset b bits byte low =
    let n = 8 * length bits in
    let whole : (k v : ℕ) → bit_at (b * 2 ^ n + number_of bits) k ≡ v → bit_at (number_of (b ∷ bits)) k ≡ v = λ k v e. subst (λ (m : ℕ). bit_at m k ≡ v) (sym (number_of-byte b bits)) e in
    same_serials (BitmapEntry a (offset + n) b ∷ BitmapEntry a offset (number_of bits) ∷ []) (BitmapEntry a offset (number_of (b ∷ bits)) ∷ []) (tt, (tt, tt)) (tt, tt) (λ c s. (
      λ h. elim h [
        | inl k ↦
            let le : n ≤ s - offset = omega (arith, k.1.1) in
            let at : s - offset - n ≡ s - (offset + n) = omega arith in
            inl (k.0, (k.1.0, omega (arith, k.1.1), whole (s - offset) 1 (bit_at_cat_high b n (number_of bits) (s - offset) low le ∙ ap (bit_at b) at ∙ k.1.2)))
        | inr r ↦ elim r [
          | inl k ↦
              let bit : bit_at (number_of (b ∷ bits)) (s - offset) ≡ 1 = elim (cases_lt (s - offset) n) [
                | inl lt ↦ whole (s - offset) 1 (bit_at_cat_low b n (number_of bits) (s - offset) lt ∙ k.1.2)
                | inr le ↦ let z = bit_at_above (number_of bits) n (s - offset) low le in absurd (omega (arith, z, k.1.2))
              ] in
              inl (k.0, (k.1.0, k.1.1, bit))
          | inr none ↦ absurd none
        ]
      ],
      λ h. elim h [
        | inl k ↦ elim (bit_of-byte b bits (s - offset) low k.1.2) [
          | inl w ↦
              let at : s - offset - n ≡ s - (offset + n) = omega arith in
              inl (k.0, (k.1.0, omega (arith, k.1.1, w.0), ap (bit_at b) (sym at) ∙ w.1))
          | inr w ↦ inr (inl (k.0, (k.1.0, k.1.1, w)))
        ]
        | inr none ↦ absurd none
      ],
    ))
