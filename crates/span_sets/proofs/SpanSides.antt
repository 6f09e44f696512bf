-- The two ends of an added span, and the set's chunks after the addition.
use Rattle.span_sets.proofs.Common.{[], ⊎_map, ◌%◌, ◌*◌, ◌+◌, ◌-◌, ◌/◌, ◌<◌, ◌^◌, ◌↔◌, ◌∙◌, ◌∷◌}
use Rattle.span_sets.proofs.Common.{◌≡◌, ◌≤◌, ◌⊎◌, All, All-append, All-cons, All-nil, ap, Apart}
use Rattle.span_sets.proofs.Common.{AreSerials, AreTight, arith, BitCovers, Bool, cases_lt, Chunk}
use Rattle.span_sets.proofs.Common.{ChunksFrom, Covers, false, get_or, Has, hi_by, hi_of, hi_or}
use Rattle.span_sets.proofs.Common.{IfSome, in_stretch, inl, inr, is_span, IsUpperSide, IsChunkFrom}
use Rattle.span_sets.proofs.Common.{IsLowerSide, IsFull, IsTight, KeepsTight, leb_tells, List, lo_by}
use Rattle.span_sets.proofs.Common.{lo_of, lo_or, members_by, members_in, members_of, min}
use Rattle.span_sets.proofs.Common.{names_left, names_right, None, Option, Some, stretch, subst}
use Rattle.span_sets.proofs.Common.{sym, true, ℕ}
use Rattle.span_sets.specs.Additions.{IsAt}
use Rattle.span_sets.proofs.ChunkOrder.{chunks_each}
use Rattle.span_sets.proofs.ChunkMembers.{in_mask, block_ends}
use Rattle.span_sets.proofs.SetChunks.{Fills, at_member, ends_before}
use Rattle.span_sets.proofs.ChunkQueries.{members_part, members_own}
use Rattle.span_sets.proofs.OrderedChunks.{chunks_back}

span_is_full : (e : Chunk) → is_span e ≡ true → IsFull e
span_is_full e span s a b =
    let P : Bool → Type 0 = λ v. lo_by v e ≤ s → s ≤ hi_by v e → Covers (members_by v e) s in
    subst P (sym span) (λ from to. inl (from, to)) a b

-- what holds for the chunks before one, for it, and for those after it holds for all
pub parts_all : (P : Chunk → Type 0) (chunks : List Chunk) (e : Chunk) (n : ℕ) → ChunksFrom 0 chunks → IsChunkFrom chunks n (Some e)
    → ((x : Chunk) → lo_of x ≤ hi_of x → hi_of x < n → hi_of x < lo_of e → P x) → P e → ((x : Chunk) → lo_of x ≤ hi_of x → hi_of e < lo_of x → P x) → All P chunks
parts_all P chunks e n order is before here after =
    let front = is.0 in
    let back = is.1.0 in
    let rise = subst (ChunksFrom 0) is.1.1.0 order in
    let ends = ends_before 0 front e back rise in
    let begins = chunks_each (hi_of e + 1) back (chunks_back 0 front (e ∷ back) rise).1 in
    subst (All P) (sym is.1.1.0)
    (All-append P front (e ∷ back) (λ k d h. before (get_or front k d) (stretch (get_or front k d)) (is.1.1.1 k d h) (ends k d h))
    (All-cons P e back here (λ k d h. after (get_or back k d) (stretch (get_or back k d)) (let far = begins k d h in omega arith))))

-- a chunk of a set covers what the set covers in its stretch
pub its_own : (chunks : List Chunk) (e : Chunk) (n s : ℕ) → ChunksFrom 0 chunks → IsChunkFrom chunks n (Some e) → lo_of e ≤ s → s ≤ hi_of e
    → Covers (members_in e) s ↔ Covers (members_of chunks) s
its_own chunks e n s order is from to =
    let rise = subst (ChunksFrom 0) is.1.1.0 order in
    let before = ends_before 0 is.0 e is.1.0 rise in (
      members_part chunks is.0 e is.1.0 s is.1.1.0,
      members_own chunks is.0 e is.1.0 (lo_of e) s order is.1.1.0 before from to,
    )

-- a span of tight chunks has no other directly before it or after it
none_before : (old : List Chunk) (e : Chunk) (n : ℕ) → AreTight old → IsChunkFrom old n (Some e) → is_span e ≡ true → All (λ x. is_span x ≡ true → hi_of x + 1 ≡ lo_of e → ⊥) old
none_before old e n t is span k d h = λ other same.
    at_member (Apart (get_or old k d)) old is.0 e is.1.0 is.1.1.0 (t.1 k d h) other span same

none_after : (old : List Chunk) (e : Chunk) (n : ℕ) → AreTight old → IsChunkFrom old n (Some e) → is_span e ≡ true → All (λ x. is_span x ≡ true → hi_of e + 1 ≡ lo_of x → ⊥) old
none_after old e n t is span k d h = λ other same.
    at_member (λ x. All (Apart x) old) old is.0 e is.1.0 is.1.1.0 t.1 k d h span other same

-- ---- the lower side

-- no span ends directly before the number
pub lower_open : (old : List Chunk) (lo : ℕ) (met : Option Chunk) → ChunksFrom 0 old → IsChunkFrom old (lo - 1) met
    → IfSome met (λ e. (lo ≤ lo_of e) ⊎ ((is_span e ≡ false) × (hi_of e < lo))) → IsLowerSide old lo None lo
lower_open old lo None order is h = record {
  from = omega arith;
  reach = omega arith;
  shared = tt;
  cut = λ k d q. inl (let end = is k d q in omega arith);
  has = λ s a b. absurd (omega arith);
  joins = λ s a b. absurd (omega arith);
  apart = λ k d q span same. absurd (let end = is k d q in omega arith);
}
lower_open old lo (Some e) order is h =
    let whole = stretch e in
    let reach = is.1.1.2 in
    record {
      from = omega arith;
      reach = omega arith;
      shared = tt;
      cut = parts_all (λ x. (hi_of x < lo) ⊎ (lo ≤ lo_of x)) old e (lo - 1) order is
          (λ x a b c. inl (omega arith)) (elim h [ inl past ↦ inr past | inr block ↦ inl block.1 ]) (λ x a b. inr (omega arith));
      has = λ s a b. absurd (omega arith);
      joins = λ s a b. absurd (omega arith);
      apart = parts_all (λ x. is_span x ≡ true → hi_of x + 1 ≡ lo → lo ≤ hi_of x) old e (lo - 1) order is
          (λ x a b c span same. absurd (omega arith))
          (λ span same. elim h [ inl past ↦ absurd (omega arith) | inr block ↦ absurd cc ])
          (λ x a b span same. absurd (omega arith));
    }

-- a span reaches the number before
pub lower_span : (old : List Chunk) (lo : ℕ) (e : Chunk) → ChunksFrom 0 old → AreTight old → IsChunkFrom old (lo - 1) (Some e) → is_span e ≡ true → lo_of e < lo
    → IsLowerSide old lo None (lo_of e)
lower_span old lo e order t is span begins =
    let whole = stretch e in
    let reach = is.1.1.2 in
    let none = none_before old e (lo - 1) t is span in
    record {
      from = omega arith;
      reach = omega arith;
      shared = tt;
      cut = parts_all (λ x. (hi_of x < lo_of e) ⊎ (lo_of e ≤ lo_of x)) old e (lo - 1) order is
          (λ x a b c. inl c) (inr (omega arith)) (λ x a b. inr (omega arith));
      has = λ s a b. absurd (omega arith);
      joins = λ s a b. members_part old is.0 e is.1.0 s is.1.1.0 (span_is_full e span s a (omega arith));
      apart = λ k d q other same. absurd (none k d q other same);
    }

-- a block reaches over the number, and is not full with the added bits
pub lower_shared : (old : List Chunk) (lo : ℕ) (e w : Chunk) → ChunksFrom 0 old → IsChunkFrom old (lo - 1) (Some e) → lo_of e < lo → lo ≤ hi_of e
    → hi_of e + 1 ≤ 64 * ((lo + 63) / 64) → lo_of w ≡ lo_of e → hi_of w ≡ hi_of e → is_span w ≡ false → (IsFull w → ⊥)
    → ((s : ℕ) → s < hi_of e + 1 → Covers (members_in w) s ↔ (Covers (members_in e) s ⊎ (lo ≤ s)))
    → IsLowerSide old lo (Some w) (hi_of e + 1)
lower_shared old lo e w order is from to reach same_lo same_hi block gap m =
    record {
      from = omega arith;
      reach = reach;
      shared = (ap (λ n. n + 1) same_hi, block, (λ empty. empty lo ((m lo (omega arith)).1 (inr (omega arith))), λ not_span full. gap full));
      cut = parts_all (λ x. (hi_of x < lo_of w) ⊎ (lo_of w ≤ lo_of x)) old e (lo - 1) order is
          (λ x a b c. inl (omega arith)) (inr (omega arith)) (λ x a b. inr (omega arith));
      has = λ s a b.
          let own = its_own old e (lo - 1) s order is (omega arith) (omega arith) in
          let in_w = m s (omega arith) in (
            λ n. ⊎_map own.0 (λ k. k) (in_w.0 n),
            λ n. in_w.1 (⊎_map own.1 (λ k. k) n),
          );
      joins = λ s a b. absurd (omega arith);
      apart = λ k d q span same. omega arith;
    }

-- all numbers from a lower one on are members
pub lower_further : (old : List Chunk) (low lo at : ℕ) → low ≤ lo → ((s : ℕ) → low ≤ s → s < lo → Covers (members_of old) s) → IsLowerSide old low None at → IsLowerSide old lo None at
lower_further old low lo at h all f =
    let from = f.from in
    record {
      from = omega arith;
      reach = omega arith;
      shared = tt;
      cut = f.cut;
      has = λ s a b. absurd (omega arith);
      joins = λ s a b. elim (cases_lt s low) [ inl below ↦ f.joins s a below | inr since ↦ all s since b ];
      apart = f.apart;
    }

-- ---- the upper side

each_in : (es : List Chunk) → All (λ x. (s : ℕ) → Covers (members_in x) s → Covers (members_of es) s) es
each_in [] = All-nil (λ x. (s : ℕ) → Covers (members_in x) s → Covers (members_of []) s)
each_in (e ∷ es) =
    let P : Chunk → Type 0 = λ x. (s : ℕ) → Covers (members_in x) s → Covers (members_of (e ∷ es)) s in
    All-cons P e es (λ s n. names_left (members_in e) (members_of es) s n) (λ k d h s n. names_right (members_in e) (members_of es) s (each_in es k d h s n))

-- no span begins directly after the number
pub upper_open : (old : List Chunk) (hi n : ℕ) (met : Option Chunk) → ChunksFrom 0 old → AreSerials (members_of old) → n ≡ min (hi + 1) (2 ^ 64 - 1) → hi < 2 ^ 64 → IsChunkFrom old n met
    → IfSome met (λ e. ((hi_of e ≤ hi) ⊎ (hi < lo_of e)) × (is_span e ≡ true → hi + 1 < lo_of e)) → IsUpperSide old hi None hi
upper_open old hi n None order serials same fits is h = record {
  upto = omega arith;
  reach = omega arith;
  shared = tt;
  cut = λ k d q. inl (let end = is k d q in omega arith);
  has = λ s a b. absurd (omega arith);
  joins = λ s a b. absurd (omega arith);
  apart = λ k d q span at. absurd (let end = is k d q in let whole = stretch (get_or old k d) in omega arith);
}
upper_open old hi n (Some e) order serials same fits is h =
    let whole = stretch e in
    let reach = is.1.1.2 in
    record {
      upto = omega arith;
      reach = omega arith;
      shared = tt;
      cut = parts_all (λ x. (hi_of x ≤ hi) ⊎ (hi < lo_of x)) old e n order is
          (λ x a b c. inl (omega arith)) h.0 (λ x a b. inr (omega arith));
      has = λ s a b. absurd (omega arith);
      joins = λ s a b. absurd (omega arith);
      apart = λ k d q span at.
          let x = get_or old k d in
          let long = stretch x in
          let in_set = serials (lo_of x) (each_in old k d q (lo_of x) (span_is_full x span (lo_of x) (omega arith) long)) in
          let there = parts_all (λ y. is_span y ≡ true → hi + 1 ≡ lo_of y → 2 ^ 64 ≤ hi + 1) old e n order is
          (λ y a b c r l. absurd (omega arith))
          (λ r l. absurd (let far = h.1 r in omega arith))
          (λ y a b r l. omega arith) k d q span at in
          absurd (omega (arith, in_set.1));
    }

-- a span reaches the number after
pub upper_span : (old : List Chunk) (hi n : ℕ) (e : Chunk) → ChunksFrom 0 old → AreTight old → n ≡ min (hi + 1) (2 ^ 64 - 1) → IsChunkFrom old n (Some e) → is_span e ≡ true → lo_of e ≤ n → hi < 2 ^ 64
    → IsUpperSide old hi None (hi_of e)
upper_span old hi n e order t same is span begins fits =
    let whole = stretch e in
    let reach = is.1.1.2 in
    let none = none_after old e n t is span in
    record {
      upto = omega arith;
      reach = omega arith;
      shared = tt;
      cut = parts_all (λ x. (hi_of x ≤ hi_of e) ⊎ (hi_of e < lo_of x)) old e n order is
          (λ x a b c. inl (omega arith)) (inl (omega arith)) (λ x a b. inr b);
      has = λ s a b. absurd (omega arith);
      joins = λ s a b. members_part old is.0 e is.1.0 s is.1.1.0 (span_is_full e span s (omega arith) b);
      apart = λ k d q other at. absurd (none k d q other at);
    }

-- a block reaches over the number, and is not full with the added bits
pub upper_shared : (old : List Chunk) (hi n at : ℕ) (e w : Chunk) → ChunksFrom 0 old → IsChunkFrom old n (Some e) → lo_of e ≤ hi → hi ≤ hi_of e → at + 1 ≡ lo_of e
    → 64 * ((hi + 1) / 64) ≤ lo_of e → lo_of w ≡ lo_of e → hi_of w ≡ hi_of e → is_span w ≡ false → (IsFull w → ⊥)
    → ((s : ℕ) → lo_of e ≤ s → Covers (members_in w) s ↔ (Covers (members_in e) s ⊎ (s ≤ hi)))
    → IsUpperSide old hi (Some w) at
upper_shared old hi n at e w order is from to before reach same_lo same_hi block gap m =
    let whole = stretch e in
    record {
      upto = omega arith;
      reach = omega arith;
      shared = (omega arith, block, (λ empty. empty hi ((m hi from).1 (inr (omega arith))), λ not_span full. gap full));
      cut = parts_all (λ x. (hi_of x ≤ hi_of w) ⊎ (hi_of w < lo_of x)) old e n order is
          (λ x a b c. inl (omega arith)) (inl (omega arith)) (λ x a b. inr (omega arith));
      has = λ s a b.
          let own = its_own old e n s order is (omega arith) (omega arith) in
          let in_w = m s (omega arith) in (
            λ q. ⊎_map own.0 (λ k. k) (in_w.0 q),
            λ q. in_w.1 (⊎_map own.1 (λ k. k) q),
          );
      joins = λ s a b. absurd (omega arith);
      apart = λ k d q span at_lo. omega arith;
    }

pub upper_further : (old : List Chunk) (high hi at : ℕ) → hi ≤ high → ((s : ℕ) → hi < s → s ≤ high → Covers (members_of old) s) → IsUpperSide old high None at → IsUpperSide old hi None at
upper_further old high hi at h all f =
    let upto = f.upto in
    record {
      upto = omega arith;
      reach = omega arith;
      shared = tt;
      cut = f.cut;
      has = λ s a b. absurd (omega arith);
      joins = λ s a b. elim (cases_lt high s) [ inl above ↦ f.joins s above b | inr upto ↦ all s a upto ];
      apart = f.apart;
    }

-- ---- a span between its ends

lower_side_in : (old : List Chunk) (lo at s : ℕ) (w : Option Chunk) → IsLowerSide old lo w at → Has w s → (lo_or w at ≤ s) × (s < at)
lower_side_in old lo at s None f n = absurd n
lower_side_in old lo at s (Some w) f n = let in_w = in_stretch w s n in let end = f.shared.0 in omega (arith, in_w.0, in_w.1)

upper_side_in : (old : List Chunk) (hi at s : ℕ) (w : Option Chunk) → IsUpperSide old hi w at → Has w s → (at < s) × (s ≤ hi_or w at)
upper_side_in old hi at s None f n = absurd n
upper_side_in old hi at s (Some w) f n = let in_w = in_stretch w s n in let end = f.shared.0 in omega (arith, in_w.0, in_w.1)

ends_fill : (old few : List Chunk) (lo hi at to : ℕ) (front back : Option Chunk) → IsLowerSide old lo front at → IsUpperSide old hi back to → lo ≤ hi → (lo + 63) / 64 ≤ (hi + 1) / 64
    → ((s : ℕ) → Covers (members_of few) s ↔ (Has front s ⊎ (((at ≤ s) × (s ≤ to)) ⊎ Has back s)))
    → Fills old (lo_or front at) (hi_or back to) few (λ s. (lo ≤ s) × (s ≤ hi))
ends_fill old few lo hi at to front back f b order windows m =
    let from = f.from in
    let upto = b.upto in
    let begins = f.reach in
    let ends = b.reach in
    record {
      low = f.cut;
      high = b.cut;
      all = λ s p q. (
        λ n. elim ((m s).0 n) [
          | inl x ↦ (let in_w = lower_side_in old lo at s front f x in ⊎_map (λ o. o) (λ k. (k, omega (arith, in_w.1))) ((f.has s in_w.0 in_w.1).0 x))
          | inr rest ↦ elim rest [
            | inl k ↦ elim (cases_lt s lo) [
              | inl below ↦ inl (f.joins s k.0 below)
              | inr since ↦ elim (cases_lt hi s) [ inl above ↦ inl (b.joins s above k.1) | inr upto ↦ inr (since, upto) ]
            ]
            | inr y ↦ (let in_w = upper_side_in old hi to s back b y in ⊎_map (λ o. o) (λ k. (omega (arith, in_w.0), k)) ((b.has s in_w.0 in_w.1).0 y))
          ]
        ],
        λ n. (m s).1 (elim (cases_lt s at) [
          | inl below ↦ inl ((f.has s p below).1 (⊎_map (λ o. o) (λ k. k.0) n))
          | inr since ↦ elim (cases_lt to s) [
            | inl above ↦ inr (inr ((b.has s above q).1 (⊎_map (λ o. o) (λ k. k.1) n)))
            | inr upto ↦ inr (inl (since, upto))
          ]
        ]),
      );
      inside = λ s k. (omega (arith, k.0), omega (arith, k.1));
    }

pub ends_fill_at : (old few : List Chunk) (lo hi from upto at to : ℕ) (front back : Option Chunk) → IsLowerSide old lo front at → IsUpperSide old hi back to → lo ≤ hi → (lo / 64 < hi / 64) ⊎ ((lo % 64 ≡ 0) × (hi % 64 ≡ 63))
    → from ≡ lo_or front at → upto ≡ hi_or back to
    → ((s : ℕ) → Covers (members_of few) s ↔ (Has front s ⊎ (((at ≤ s) × (s ≤ to)) ⊎ Has back s)))
    → Fills old from upto few (λ s. (lo ≤ s) × (s ≤ hi))
ends_fill_at old few lo hi from upto at to front back f b order windows low high m =
    let meet : (lo + 63) / 64 ≤ (hi + 1) / 64 = elim windows [ inl far ↦ omega arith | inr whole ↦ (let x = whole.0 in let y = whole.1 in omega arith) ] in
    let fills = ends_fill old few lo hi at to front back f b order meet m in
    let Added : ℕ → Type 0 = λ s. (lo ≤ s) × (s ≤ hi) in
    subst (λ n. Fills old n upto few Added) (sym low) (subst (λ n. Fills old (lo_or front at) n few Added) (sym high) fills)

-- an added span touches no span that stays
pub ends_keep_tight : (old few : List Chunk) (lo hi at to : ℕ) (front back : Option Chunk) → IsLowerSide old lo front at → IsUpperSide old hi back to
    → All IsTight few → All (λ e. is_span e ≡ true → (lo_of e ≡ at) × (hi_of e ≡ to)) few → KeepsTight old (lo_or front at) (hi_or back to) few
ends_keep_tight old few lo hi at to front back f b tight spans = record {
  tight = (
    tight,
    λ i d h j c q span other same.
        let x = spans i d h span in
        let y = spans j c q other in
        let whole = stretch (get_or few j c) in
        omega (arith, x.1, y.0, y.1),
  );
  low = λ i d h below j c q span other same.
      let x = spans j c q other in
      let back = f.apart i d h span (same ∙ x.0) in
      omega arith;
  high = λ i d h above j c q span other same.
      let x = spans j c q span in
      let back = b.apart i d h other (ap (λ n. n + 1) (sym x.1) ∙ same) in
      omega arith;
}

-- ---- the bits of a window

-- a chunk that reaches over the beginning of a window is a span
not_block : (e : Chunk) (n : ℕ) → n % 64 ≡ 0 → lo_of e < n → n ≤ hi_of e → is_span e ≡ true
not_block e n edge from to =
    elim (leb_tells e.a e.b) [
      | inl span ↦ span.0
      | inr block ↦ absurd (let ends = block_ends e block.0 in let a = ends.0 in let b = ends.1 in omega arith)
    ]

before_head : (old : List Chunk) (first : ℕ) (head : Option Chunk) (x : Chunk) → All (λ f. Apart x f) old → IsAt old first head → first % 64 ≡ 0 → lo_or head first < first
    → is_span x ≡ true → hi_of x + 1 ≡ lo_or head first → ⊥
before_head old first None x t at edge less span same = absurd (omega arith)
before_head old first (Some h) x t at edge less span same =
    at_member (Apart x) old at.stands.0 h at.stands.1.0 at.stands.1.1 t span (not_block h first edge less at.to) same

after_tail : (old : List Chunk) (last : ℕ) (tail : Option Chunk) (x : Chunk) → All (λ f. Apart f x) old → IsAt old last tail → (last + 1) % 64 ≡ 0 → last < hi_or tail last
    → is_span x ≡ true → hi_or tail last + 1 ≡ lo_of x → ⊥
after_tail old last None x t at edge less span same = absurd (omega arith)
after_tail old last (Some e) x t at edge less span same =
    let from = at.from in
    at_member (λ f. Apart f x) old at.stands.0 e at.stands.1.0 at.stands.1.1 t (not_block e (last + 1) edge (omega arith) (omega arith)) span same

-- the block of a window, between what is left of the chunks at its ends, touches no span
pub bits_keep_tight : (old few : List Chunk) (first : ℕ) (head tail : Option Chunk) → AreTight old → IsAt old first head → IsAt old (first + 63) tail → first % 64 ≡ 0
    → All IsTight few
    → All (λ e. is_span e ≡ true → ((lo_of e ≡ lo_or head first) × (hi_of e < first)) ⊎ ((first + 63 < lo_of e) × (hi_of e ≡ hi_or tail (first + 63)))) few
    → KeepsTight old (lo_or head first) (hi_or tail (first + 63)) few
bits_keep_tight old few first head tail t at end edge tight spans =
    let begins = at.from in
    let ends = end.to in record {
      tight = (
        tight,
        λ i d h j c q span other same.
            let whole = stretch (get_or few j c) in
            let long = stretch (get_or few i d) in
            elim (spans i d h span) [
              | inl x ↦ elim (spans j c q other) [ inl y ↦ omega (arith, x.0, x.1, y.0, y.1) | inr y ↦ omega (arith, x.0, x.1, y.0, y.1) ]
              | inr x ↦ elim (spans j c q other) [ inl y ↦ omega (arith, x.0, x.1, y.0, y.1) | inr y ↦ omega (arith, x.0, x.1, y.0, y.1) ]
            ],
      );
      low = λ i d h below j c q span other same.
          let whole = stretch (get_or few j c) in
          elim (spans j c q other) [
            | inl y ↦ before_head old first head (get_or old i d) (t.1 i d h) at edge (omega (arith, y.0, y.1)) span (same ∙ y.0)
            | inr y ↦ omega (arith, y.0)
          ];
      high = λ i d h above j c q span other same.
          let whole = stretch (get_or few j c) in
          elim (spans j c q span) [
            | inl y ↦ omega (arith, y.1)
            | inr y ↦ after_tail old (first + 63) tail (get_or old i d) (λ k b r. t.1 k b r i d h) end (omega arith) (omega (arith, y.0, y.1)) other
                (ap (λ n. n + 1) (sym y.1) ∙ same)
          ];
    }

-- ---- masks

pub mask_from : (window lo more s : ℕ) → more ≡ 2 ^ (63 + 1) - 2 ^ (lo % 64) → 64 * window ≤ lo → lo ≤ 64 * window + 63 → BitCovers 64 (64 * window) more s → lo ≤ s
mask_from window lo more s e from to n =
    let at = (in_mask (64 * window) (lo % 64) 63 s (omega arith) (omega arith) n.0).0 (subst (λ (m : ℕ). BitCovers 64 (64 * window) m s) e n) in
    omega (arith, at.0)

pub mask_upto : (window hi more s : ℕ) → more ≡ 2 ^ (hi % 64 + 1) - 2 ^ 0 → 64 * window ≤ hi → hi ≤ 64 * window + 63 → BitCovers 64 (64 * window) more s → s ≤ hi
mask_upto window hi more s e from to n =
    let at = (in_mask (64 * window) 0 (hi % 64) s (omega arith) (omega arith) n.0).0 (subst (λ (m : ℕ). BitCovers 64 (64 * window) m s) e n) in
    omega (arith, at.1)
