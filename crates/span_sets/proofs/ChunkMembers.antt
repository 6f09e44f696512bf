-- Members of one chunk, and masks of bits.
use Rattle.span_sets.proofs.Common.{◌%◌, ◌*◌, ◌+◌, ◌-◌, ◌/◌, ◌<◌, ◌^◌, ◌↔◌, ◌∙◌, ◌≡◌, ◌≤◌, ◌⊎◌, ap}
use Rattle.span_sets.proofs.Common.{arith, bit_at, bit_at-lt, bit_at_mask_above, bit_at_mask_below}
use Rattle.span_sets.proofs.Common.{bit_at_mask_inside, bit_at_or, bit_or, BitCovers, bits_of, Bool}
use Rattle.span_sets.proofs.Common.{cases_lt, Chunk, Covers, eqb_tells, false, hi_by, hi_of, inl}
use Rattle.span_sets.proofs.Common.{inr, is_span, lo_by, lo_of, members_by, members_in, min}
use Rattle.span_sets.proofs.Common.{next_bit, one_shl, ones_shr, pow_mono, pow_pos, refl, single_by}
use Rattle.span_sets.proofs.Common.{singles, singles_to, subst, suc, sym, this_bit, true, window_of}
use Rattle.span_sets.proofs.Common.{zero, ℕ}

pub singles_from : (count base bits s : ℕ) → BitCovers count base bits s
    → Covers (singles count base bits) s
unfolding singles
singles_from zero base bits s n = absurd (omega arith)
singles_from (suc count) base bits s n =
    let later : base + 1 ≤ s → Covers (singles count (base + 1) (bits / 2)) s =
    λ h. singles_from count (base + 1) (bits / 2) s
    (h, omega arith, sym (next_bit base bits s h) ∙ n.2) in
    let P : Bool → Type 0 =
    λ v. Covers (single_by v base (singles count (base + 1) (bits / 2))) s in
    elim (cases_lt base s) [
      | inl past ↦ elim (eqb_tells (bits % 2) 1) [
        | inl set ↦ subst P (sym set.0) (inr (later (omega arith)))
        | inr not ↦ subst P (sym not.0) (later (omega arith))
      ]
      | inr upto ↦
          let same : s ≡ base = omega arith in
          elim (eqb_tells (bits % 2) 1) [
            | inl set ↦ subst P (sym set.0) (inl (omega arith, omega arith))
            | inr not ↦ absurd (not.1 (sym (this_bit base bits s same) ∙ n.2))
          ]
    ]

-- the members of a block are its set bits
pub in_block : (e : Chunk) (s : ℕ) → is_span e ≡ false → Covers (members_in e) s ↔ BitCovers 64 (64 * window_of e) (bits_of e) s
in_block e s block =
    let P : Bool → Type 0 = λ v. Covers (members_by v e) s ↔ BitCovers 64 (64 * window_of e) (bits_of e) s in
    subst P (sym block) (singles_to 64 (64 * window_of e) (bits_of e) s, singles_from 64 (64 * window_of e) (bits_of e) s)

-- the members of a span
pub in_span : (e : Chunk) (s : ℕ) → is_span e ≡ true → Covers (members_in e) s ↔ ((e.a ≤ s) × (s ≤ e.b))
in_span e s span =
    let P : Bool → Type 0 = λ v. Covers (members_by v e) s ↔ ((e.a ≤ s) × (s ≤ e.b)) in
    subst P (sym span) (λ n. elim n [ inl here ↦ here | inr none ↦ absurd none ], λ h. inl h)

-- ---- masks

pub high_ones : (hi : ℕ) → hi < 64 → (2 ^ 64 - 1) / 2 ^ (63 - hi) ≡ 2 ^ (hi + 1) - 1
high_ones hi h =
    let e : 64 - (63 - hi) ≡ hi + 1 = omega arith in
    ones_shr 64 (63 - hi) (omega arith) ∙ ap (λ k. 2 ^ k - 1) e

pub low_ones : (lo : ℕ) → lo < 64 → 1 * 2 ^ lo % 2 ^ 64 ≡ 2 ^ lo
low_ones lo h = one_shl lo 64 h

pub mask_fits : (lo hi : ℕ) → lo ≤ hi → (2 ^ lo ≤ 2 ^ (hi + 1)) × (0 < 2 ^ lo)
mask_fits lo hi h = (pow_mono (omega arith), pow_pos lo)

-- bits from one to another, as numbers from base on
pub in_mask : (base lo hi s : ℕ) → lo ≤ hi → hi < 64 → base ≤ s → BitCovers 64 base (2 ^ (hi + 1) - 2 ^ lo) s ↔ ((base + lo ≤ s) × (s ≤ base + hi))
in_mask base lo hi s h k from = (
  λ n. elim (cases_lt (s - base) lo) [
    | inl below ↦ absurd (omega (arith, n.2, bit_at_mask_below lo (hi + 1) (s - base) below))
    | inr not_below ↦ elim (cases_lt hi (s - base)) [
      | inl above ↦ absurd (omega (arith, n.2, bit_at_mask_above lo (hi + 1) (s - base) (omega arith)))
      | inr upto ↦ (omega arith, omega arith)
    ]
  ],
  λ h2. (from, omega arith, bit_at_mask_inside lo (hi + 1) (s - base) (omega arith) (omega arith)),
)

-- the part of a span that is in a window
pub in_clipped : (base lo hi s first last bits : ℕ) → bits ≡ 2 ^ (last + 1) - 2 ^ first → first ≡ lo - base → last ≡ min (hi - base) 63 → base ≤ hi → lo ≤ base + 63 → lo ≤ hi → base ≤ s → s < base + 64 → BitCovers 64 base bits s ↔ ((lo ≤ s) × (s ≤ hi))
in_clipped base lo hi s first last bits e a b c d f from to =
    let P : ℕ → Type 0 = λ m. BitCovers 64 base m s ↔ ((lo ≤ s) × (s ≤ hi)) in
    let mask = in_mask base first last s (omega arith) (omega arith) from in
    subst P (sym e) (
      λ n. let at = mask.0 n in (omega arith, omega arith),
      λ n. mask.1 (omega arith, omega arith),
    )

-- the bits of two numbers together are those of either
pub in_or : (base a b s : ℕ) → BitCovers 64 base (bit_or a b) s ↔ (BitCovers 64 base a s ⊎ BitCovers 64 base b s)
in_or base a b s =
    let i = s - base in
    let one = bit_at_or a b i in (
      λ n. elim (cases_lt (bit_at a i) 1) [
        | inl none ↦ inr (n.0, n.1, omega (arith, n.2, one, bit_at-lt b i))
        | inr some ↦ inl (n.0, n.1, omega (arith, bit_at-lt a i))
      ],
      λ m. elim m [
        | inl x ↦ (x.0, x.1, omega (arith, x.2, one, bit_at-lt b i))
        | inr y ↦ (y.0, y.1, omega (arith, y.2, one, bit_at-lt a i))
      ],
    )

-- where a block begins and ends
pub block_ends : (e : Chunk) → is_span e ≡ false → (lo_of e ≡ 64 * window_of e) × (hi_of e ≡ 64 * window_of e + 63)
block_ends e block =
    let P : Bool → Type 0 = λ v. (lo_by v e ≡ 64 * window_of e) × (hi_by v e ≡ 64 * window_of e + 63) in
    subst P (sym block) (refl, refl)
