-- Consecutive bits, and the members that they represent.
use Rattle.span_sets.proofs.Common.{◌*◌, ◌+◌, ◌-◌, ◌<◌, ◌^◌, ◌∙◌, ◌≡◌, ◌≤◌, ap, arith, bit_and}
use Rattle.span_sets.proofs.Common.{bit_at, bit_at-lt, bit_at-trailing_zeros, bit_at-zero}
use Rattle.span_sets.proofs.Common.{bit_at_and, bit_at_mask_below, bit_at_mask_inside, bit_at_not}
use Rattle.span_sets.proofs.Common.{bit_not, bits_of, cases_eq, cases_lt, Chunk, Covers, false}
use Rattle.span_sets.proofs.Common.{GoesOn, hi_of, inl, inr, is_span, IsFirst, IsFirstBit, lo_of}
use Rattle.span_sets.proofs.Common.{members_in, None, Some, subst, sym, trailing_zeros, w64}
use Rattle.span_sets.proofs.Common.{window_of, ℕ}
use Rattle.span_sets.proofs.ChunkMembers.{in_block, block_ends}

pub none_set : (bits bit m : ℕ) → m ≡ 2 ^ 64 - 2 ^ bit → bit_and bits m ≡ 0 → IsFirstBit bits bit None
none_set bits bit m e none i h k =
    let zero : bit_at (bit_and bits m) i ≡ 0 = ap (λ n. bit_at n i) none ∙ bit_at-zero i in
    let in' : bit_at m i ≡ 1 = ap (λ n. bit_at n i) e ∙ bit_at_mask_inside bit 64 i h k in
    omega (arith, zero, in', bit_at_and bits m i)

pub first_set : (bits bit m : ℕ) → bit < 64 → m ≡ 2 ^ 64 - 2 ^ bit → 0 < bit_and bits m → bit_and bits m < 2 ^ 64 → IsFirstBit bits bit (Some (trailing_zeros w64 (bit_and bits m)))
first_set bits bit m within e some fits =
    let rest = bit_and bits m in
    let at = trailing_zeros w64 rest in
    let t = bit_at-trailing_zeros w64 rest some fits in
    let mask_is : (i : ℕ) → bit_at m i ≡ bit_at (2 ^ 64 - 2 ^ bit) i = λ i. ap (λ n. bit_at n i) e in
    let from : bit ≤ at = elim (cases_lt at bit) [
      | inl below ↦ absurd (omega (arith, t.1, bit_at_and bits m at, mask_is at, bit_at_mask_below bit 64 at below))
      | inr upto ↦ upto
    ] in
    let low = bit_at-lt bits at in (
      from,
      t.0,
      omega (arith, t.1, bit_at_and bits m at, mask_is at, bit_at_mask_inside bit 64 at from t.0),
      λ i h k. omega (arith, t.2 i k, bit_at_and bits m i, mask_is i, bit_at_mask_inside bit 64 i h (omega (arith, t.0))),
    )

-- the first bit that is not set, after one that is
pub first_clear : (bits bit at : ℕ) → bits < 2 ^ 64 → bit_at bits bit ≡ 1 → IsFirstBit (bit_not w64 bits) bit (Some at) → bit < at
first_clear bits bit at fits set k =
    let not = bit_at_not w64 bits at fits k.1 in
    elim (cases_eq at bit) [
      | inl same ↦ absurd (let here : bit_at bits at ≡ 1 = subst (λ i. bit_at bits i ≡ 1) (sym same) set in omega (arith, k.2, not))
      | inr other ↦ elim (cases_lt bit at) [ inl below ↦ below | inr upto ↦ absurd (other (omega (arith, k.0))) ]
    ]

pub set_before : (bits i : ℕ) → bits < 2 ^ 64 → i < 64 → bit_at (bit_not w64 bits) i ≡ 0 → bit_at bits i ≡ 1
set_before bits i fits within clear =
    let not = bit_at_not w64 bits i fits within in
    let low = bit_at-lt bits i in
    omega arith

-- ---- the members of a block

pub block_none : (e : Chunk) (number bit : ℕ) → is_span e ≡ false → bit ≡ number - lo_of e → IsFirstBit (bits_of e) bit None → IsFirst (members_in e) number None
block_none e number bit block is k s h n =
    let at = (in_block e s block).0 n in
    let ends = block_ends e block in
    omega (arith, at.0, at.1, at.2, k (s - 64 * window_of e) (omega arith) (omega (arith, at.0, at.1)))

pub block_first : (e : Chunk) (number bit at : ℕ) → is_span e ≡ false → bit ≡ number - lo_of e → IsFirstBit (bits_of e) bit (Some at) → IsFirst (members_in e) number (Some (lo_of e + at))
block_first e number bit at block is k =
    let base = 64 * window_of e in
    let ends = block_ends e block in
    let back : lo_of e + at - base ≡ at = omega arith in (
      omega (arith, k.0),
      (in_block e (lo_of e + at) block).1 (omega arith, omega (arith, k.1), ap (λ i. bit_at (bits_of e) i) back ∙ k.2),
      λ s h l n. let m = (in_block e s block).0 n in omega (arith, m.0, m.1, m.2, k.3 (s - base) (omega arith) (omega arith)),
    )

pub block_on : (e : Chunk) (member last : ℕ) → is_span e ≡ false → Covers (members_in e) member → member - lo_of e ≤ last → last < 64
    → ((i : ℕ) → member - lo_of e ≤ i → i ≤ last → bit_at (bits_of e) i ≡ 1) → GoesOn (members_in e) member (lo_of e + last)
block_on e member last block n order within all =
    let at = (in_block e member block).0 n in
    let ends = block_ends e block in
    record {
      order = omega (arith, at.0);
      all = λ s h k. (in_block e s block).1 (omega (arith, at.0), omega (arith, at.0), ap (λ (i : ℕ). bit_at (bits_of e) (s - i)) (sym ends.0) ∙ all (s - lo_of e) (omega arith) (omega (arith, at.0)));
    }

-- the consecutive members of a block end where the next bit is not set
pub block_stops : (e : Chunk) (last : ℕ) → is_span e ≡ false → (last < 63 → bit_at (bits_of e) (last + 1) ≡ 0) → lo_of e + last < hi_of e → Covers (members_in e) (lo_of e + last + 1) → ⊥
block_stops e last block clear h n =
    let at = (in_block e (lo_of e + last + 1) block).0 n in
    let ends = block_ends e block in
    let none = subst (λ i. bit_at (bits_of e) i ≡ 0) {x = last + 1} {y = lo_of e + last + 1 - 64 * window_of e} (omega arith) (clear (omega arith)) in
    omega (arith, at.2, none)
