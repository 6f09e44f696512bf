-- Members of the chunks by which an addition replaces others.
use Rattle.span_sets.proofs.Common.{[], ⊎_elim, ⊎_map, ◌%◌, ◌*◌, ◌++◌, ◌+◌, ◌-◌, ◌<◌, ◌^◌, ◌↔◌, ◌∙◌}
use Rattle.span_sets.proofs.Common.{◌≡◌, ◌≤◌, ◌⊎◌, All, All-append, All-cons, All-nil, ap, arith}
use Rattle.span_sets.proofs.Common.{bit_at, bit_at-trailing_ones, bit_at-trailing_zeros}
use Rattle.span_sets.proofs.Common.{bit_at_ones, bit_or, BitCovers, bits_of, Chunk, ChunksFrom}
use Rattle.span_sets.proofs.Common.{Covers, false, Has, hi_by, hi_of, hi_or, IfSome, inl, inr}
use Rattle.span_sets.proofs.Common.{is_span, IsFull, IsReplacement, IsTight, le-leb, length}
use Rattle.span_sets.proofs.Common.{length-append, List, lo_by, lo_of, lo_or, members_in}
use Rattle.span_sets.proofs.Common.{members_of, None, Option, option_to_list, singles, singles_to}
use Rattle.span_sets.proofs.Common.{Some, stretch, subst, sym, trailing_ones, trailing_zeros, true}
use Rattle.span_sets.proofs.Common.{w64, window_of, ℕ}
use Rattle.span_sets.proofs.ChunkMembers.{in_mask, in_or, in_span, in_block, block_ends, singles_from}
use Rattle.span_sets.proofs.ChunkQueries.{one_has}
use Rattle.span_sets.proofs.OrderedChunks.{chunks_join, has_append, has_left, has_right}

-- ---- blocks

pub in_singles : (w : Chunk) (base bits s : ℕ) → members_in w ≡ singles 64 base bits → Covers (members_in w) s ↔ BitCovers 64 base bits s
in_singles w base bits s e =
    subst (λ l. Covers l s ↔ BitCovers 64 base bits s) (sym e) (singles_to 64 base bits s, singles_from 64 base bits s)

-- a block with more bits
pub with_bits : (e w : Chunk) (bits more s : ℕ) → is_span e ≡ false → members_in w ≡ singles 64 (64 * window_of e) (bit_or bits more) → bits ≡ bits_of e
    → Covers (members_in w) s ↔ (Covers (members_in e) s ⊎ BitCovers 64 (64 * window_of e) more s)
with_bits e w bits more s block is b =
    let base = 64 * window_of e in
    let new = in_singles w base (bit_or bits more) s is in
    let both = in_or base bits more s in
    let old = subst (λ (n : ℕ). Covers (members_in e) s ↔ BitCovers 64 base n s) (sym b) (in_block e s block) in (
      λ n. ⊎_map old.1 (λ y. y) (both.0 (new.0 n)),
      λ m. new.1 (both.1 (⊎_map old.0 (λ y. y) m)),
    )

pub lower_block : (e w : Chunk) (lo bits more s : ℕ) → is_span e ≡ false → lo_of e ≤ lo → lo ≤ hi_of e → members_in w ≡ singles 64 (64 * window_of e) (bit_or bits more) → bits ≡ bits_of e
    → more ≡ 2 ^ (63 + 1) - 2 ^ (lo % 64) → s < hi_of e + 1 → Covers (members_in w) s ↔ (Covers (members_in e) s ⊎ (lo ≤ s))
lower_block e w lo bits more s block from upto is b m h =
    let base = 64 * window_of e in
    let at : lo_of e ≡ base = ap (λ v. lo_by v e) block in
    let end : hi_of e ≡ base + 63 = ap (λ v. hi_by v e) block in
    let with = with_bits e w bits more s block is b in
    let mask : base ≤ s → BitCovers 64 base more s ↔ ((base + lo % 64 ≤ s) × (s ≤ base + 63)) =
    λ k. subst (λ (n : ℕ). BitCovers 64 base n s ↔ ((base + lo % 64 ≤ s) × (s ≤ base + 63))) (sym m) (in_mask base (lo % 64) 63 s (omega arith) (omega arith) k) in (
      λ n. elim (with.0 n) [ inl x ↦ inl x | inr y ↦ inr (let in_mask_now = (mask y.0).0 y in omega arith) ],
      λ n. with.1 (elim n [ inl x ↦ inl x | inr k ↦ inr ((mask (omega arith)).1 (omega arith, omega arith)) ]),
    )

pub upper_block : (e w : Chunk) (hi bits more s : ℕ) → is_span e ≡ false → lo_of e ≤ hi → hi ≤ hi_of e → members_in w ≡ singles 64 (64 * window_of e) (bit_or bits more) → bits ≡ bits_of e
    → more ≡ 2 ^ (hi % 64 + 1) - 2 ^ 0 → lo_of e ≤ s → Covers (members_in w) s ↔ (Covers (members_in e) s ⊎ (s ≤ hi))
upper_block e w hi bits more s block from upto is b m h =
    let base = 64 * window_of e in
    let at : lo_of e ≡ base = ap (λ v. lo_by v e) block in
    let end : hi_of e ≡ base + 63 = ap (λ v. hi_by v e) block in
    let with = with_bits e w bits more s block is b in
    let mask = subst (λ (n : ℕ). BitCovers 64 base n s ↔ ((base + 0 ≤ s) × (s ≤ base + hi % 64))) (sym m) (in_mask base 0 (hi % 64) s (omega arith) (omega arith) (omega arith)) in (
      λ n. elim (with.0 n) [ inl x ↦ inl x | inr y ↦ inr (let in_mask_now = mask.0 y in omega arith) ],
      λ n. with.1 (elim n [ inl x ↦ inl x | inr k ↦ inr (mask.1 (omega arith, omega arith)) ]),
    )

-- ---- up to three chunks

pub opt_has : (o : Option Chunk) (s : ℕ) → Covers (members_of (option_to_list o)) s ↔ Has o s
opt_has None s = (λ n. n, λ n. n)
opt_has (Some e) s = one_has e s

-- the members of up to three chunks
pub three_has : (few : List Chunk) (a b c : Option Chunk) (s : ℕ) → few ≡ option_to_list a ++ (option_to_list b ++ option_to_list c)
    → Covers (members_of few) s ↔ (Has a s ⊎ (Has b s ⊎ Has c s))
three_has few a b c s e =
    let la = option_to_list a in
    let lb = option_to_list b in
    let lc = option_to_list c in
    subst (λ (l : List Chunk). Covers (members_of l) s ↔ (Has a s ⊎ (Has b s ⊎ Has c s))) (sym e) (
      λ n. ⊎_map (opt_has a s).0 (λ rest. ⊎_map (opt_has b s).0 (opt_has c s).0 (has_append lb lc s rest)) (has_append la (lb ++ lc) s n),
      λ n. ⊎_elim (λ x. has_left la (lb ++ lc) s ((opt_has a s).1 x)) (λ rest. has_right la (lb ++ lc) s
          (⊎_elim (λ y. has_left lb lc s ((opt_has b s).1 y)) (λ z. has_right lb lc s ((opt_has c s).1 z)) rest)) n,
    )

opt_order : (o : Option Chunk) (from to : ℕ) → IfSome o (λ e. (from ≤ lo_of e) × (hi_of e < to)) → ChunksFrom from (option_to_list o)
opt_order None from to h = tt
opt_order (Some e) from to h = (h.0, tt)

opt_ends : (o : Option Chunk) (from to : ℕ) → IfSome o (λ e. (from ≤ lo_of e) × (hi_of e < to)) → All (λ e. hi_of e < to) (option_to_list o)
opt_ends None from to h = All-nil (λ e. hi_of e < to)
opt_ends (Some e) from to h = All-cons (λ e. hi_of e < to) e [] h.1 (All-nil (λ e. hi_of e < to))

-- up to three chunks in rising order
pub three_lie : (few : List Chunk) (a b c : Option Chunk) (lo at past hi : ℕ) → few ≡ option_to_list a ++ (option_to_list b ++ option_to_list c)
    → IfSome a (λ e. (lo ≤ lo_of e) × (hi_of e < at)) → IfSome b (λ e. (at ≤ lo_of e) × (hi_of e < past)) → IfSome c (λ e. (past ≤ lo_of e) × (hi_of e < hi + 1))
    → lo ≤ at → at ≤ past → past ≤ hi + 1 → lo ≤ hi → 0 < length few → IsReplacement few lo hi
three_lie few a b c lo at past hi e ha hb hc p q r between some =
    let la = option_to_list a in
    let lb = option_to_list b in
    let lc = option_to_list c in
    let rest = chunks_join at past lb lc q (opt_order b at past hb) (opt_ends b at past hb) (opt_order c past (hi + 1) hc) in
    let order = chunks_join lo at la (lb ++ lc) p (opt_order a lo at ha) (opt_ends a lo at ha) rest in
    let ea = opt_ends a lo at ha in
    let eb = opt_ends b at past hb in
    let ec = opt_ends c past (hi + 1) hc in
    let ends : All (λ e. hi_of e ≤ hi) (la ++ (lb ++ lc)) =
    All-append (λ e. hi_of e ≤ hi) la (lb ++ lc) (λ k d h. let x = ea k d h in omega arith)
    (All-append (λ e. hi_of e ≤ hi) lb lc (λ k d h. let x = eb k d h in omega arith) (λ k d h. let x = ec k d h in omega arith)) in
    record {
      some = some;
      order = subst (ChunksFrom lo) (sym e) order;
      ends = subst (All (λ e. hi_of e ≤ hi)) (sym e) ends;
      between = between;
    }

-- one of three, each of them restated
pub either_of : {X A B C P Q R : Type 0} → X ↔ (A ⊎ (B ⊎ C)) → A ↔ P → B ↔ Q → C ↔ R → X ↔ (P ⊎ (Q ⊎ R))
either_of x a b c = (
  λ n. ⊎_map a.0 (⊎_map b.0 c.0) (x.0 n),
  λ n. x.1 (⊎_map a.1 (⊎_map b.1 c.1) n),
)

pub some_weaker : (o : Option Chunk) (P Q : Chunk → Type 0) → ((e : Chunk) → P e → Q e) → IfSome o P → IfSome o Q
some_weaker None P Q f h = tt
some_weaker (Some e) P Q f h = f e h

-- ---- chunks that are neither empty nor, as blocks, full

-- a block with some of its bits set, and not all
pub block_gap : (w : Chunk) (base bits : ℕ) → members_in w ≡ singles 64 base bits → lo_of w ≡ base → hi_of w ≡ base + 63 → bits + 1 < 2 ^ 64 → IsFull w → ⊥
block_gap w base bits is lo hi less full =
    let i = trailing_ones w64 bits in
    let gap = bit_at-trailing_ones w64 bits less in
    let at = (in_singles w base bits (base + i) is).0 (full (base + i) (omega arith) (omega (arith, gap.0))) in
    let position : base + i - base ≡ i = omega arith in
    omega (arith, gap.1, at.2, ap (λ k. bit_at bits k) position)

pub block_some : (base bits : ℕ) → 0 < bits → bits < 2 ^ 64 → (s : ℕ) × BitCovers 64 base bits s
block_some base bits some fits =
    let i = trailing_zeros w64 bits in
    let set = bit_at-trailing_zeros w64 bits some fits in
    let position : base + i - base ≡ i = omega arith in
    (base + i, (omega arith, omega (arith, set.0), ap (λ k. bit_at bits k) position ∙ set.1))

pub block_tight : (w : Chunk) (base bits : ℕ) → members_in w ≡ singles 64 base bits → lo_of w ≡ base → hi_of w ≡ base + 63 → 0 < bits → bits + 1 < 2 ^ 64 → IsTight w
block_tight w base bits is lo hi some less =
    let bit = block_some base bits some (omega arith) in
    (λ empty. empty bit.0 ((in_singles w base bits bit.0 is).1 bit.1), λ block full. block_gap w base bits is lo hi less full)

pub span_tight : (e : Chunk) → e.a ≤ e.b → IsTight e
span_tight e h =
    let span : is_span e ≡ true = le-leb e.a e.b h in
    (λ empty. empty e.a ((in_span e e.a span).1 (omega arith, h)), λ block full. absurd cc)

-- if all bits are set, all numbers are covered
pub all_set : (base bits s : ℕ) → bits ≡ 2 ^ 64 - 1 → base ≤ s → s < base + 64 → BitCovers 64 base bits s
all_set base bits s all from to = (from, to, ap (λ n. bit_at n (s - base)) all ∙ bit_at_ones 64 (s - base) (omega arith))

opt_all : (P : Chunk → Type 0) (o : Option Chunk) → IfSome o P → All P (option_to_list o)
opt_all P None h = All-nil P
opt_all P (Some e) h = All-cons P e [] h (All-nil P)

-- what holds for each of up to three chunks holds for all
pub three_all : (P : Chunk → Type 0) (few : List Chunk) (a b c : Option Chunk) → few ≡ option_to_list a ++ (option_to_list b ++ option_to_list c)
    → IfSome a P → IfSome b P → IfSome c P → All P few
three_all P few a b c e ha hb hc =
    subst (All P) (sym e)
    (All-append P (option_to_list a) (option_to_list b ++ option_to_list c) (opt_all P a ha) (All-append P (option_to_list b) (option_to_list c) (opt_all P b hb) (opt_all P c hc)))

-- the blocks at the ends of a span are beside the rest of the span
pub lower_lies : (w : Option Chunk) (at : ℕ) → IfSome w (λ e. (hi_of e + 1 ≡ at) × (is_span e ≡ false) × IsTight e)
    → IfSome w (λ e. (lo_or w at ≤ lo_of e) × (hi_of e < at)) × (lo_or w at ≤ at)
lower_lies None at h = (tt, omega arith)
lower_lies (Some e) at h = let whole = stretch e in let end = h.0 in ((omega arith, omega arith), omega arith)

pub upper_lies : (w : Option Chunk) (at : ℕ) → IfSome w (λ e. (at + 1 ≡ lo_of e) × (is_span e ≡ false) × IsTight e)
    → IfSome w (λ e. (at + 1 ≤ lo_of e) × (hi_of e < hi_or w at + 1)) × (at ≤ hi_or w at)
upper_lies None at h = (tt, omega arith)
upper_lies (Some e) at h = let whole = stretch e in let end = h.0 in ((omega arith, omega arith), omega arith)

some_of : (a b c : Option Chunk) (at to : ℕ) → lo_or a at ≤ hi_or c to → (at ≤ to → 0 < length (option_to_list b))
    → 0 < length (option_to_list a) + (length (option_to_list b) + length (option_to_list c))
some_of None b None at to h some = let one = some h in omega arith
some_of (Some x) b c at to h some = omega arith
some_of None b (Some y) at to h some = omega arith

-- there is a block, or the rest covers a number
pub some_rest : (few : List Chunk) (a b c : Option Chunk) (at to : ℕ) → few ≡ option_to_list a ++ (option_to_list b ++ option_to_list c) → lo_or a at ≤ hi_or c to
    → (at ≤ to → 0 < length (option_to_list b)) → 0 < length few
some_rest few a b c at to e h some =
    let sum = length-append (option_to_list a) (option_to_list b ++ option_to_list c) in
    let rest = length-append (option_to_list b) (option_to_list c) in
    let all = ap length e in
    let one : 0 < length (option_to_list a) + (length (option_to_list b) + length (option_to_list c)) = some_of a b c at to h some in
    omega arith

-- a block that has all bits once some are added
pub all_with : (e : Chunk) (bits more s : ℕ) → is_span e ≡ false → bits ≡ bits_of e → bit_or bits more ≡ 2 ^ 64 - 1 → lo_of e ≤ s → s ≤ hi_of e
    → Covers (members_in e) s ⊎ BitCovers 64 (64 * window_of e) more s
all_with e bits more s block b all from to =
    let base = 64 * window_of e in
    let ends = block_ends e block in
    let begins = ends.0 in
    let last = ends.1 in
    ⊎_map (λ n. (in_block e s block).1 (subst (λ (k : ℕ). BitCovers 64 base k s) b n)) (λ n. n)
    ((in_or base bits more s).0 (all_set base (bit_or bits more) s all (omega arith) (omega arith)))
