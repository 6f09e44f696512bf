-- Chunks of a set: the one at a number, and how a change affects the set's runs.
use Rattle.span_sets.proofs.Common.{[], ⊎_elim, ⊎_map, ⊎_swap, ◌%◌, ◌*◌, ◌++◌, ◌+◌, ◌-◌, ◌/◌, ◌<◌}
use Rattle.span_sets.proofs.Common.{◌^◌, ◌↔◌, ◌∷◌, ◌≡◌, ◌≤◌, ◌⊎◌, AddsSpan, All, All-append}
use Rattle.span_sets.proofs.Common.{All-cons, All-head, All-nil, All-tail, AreSerials, arith}
use Rattle.span_sets.proofs.Common.{bit_or, BitCovers, cases_lt, Chunk, ChunksFrom, Covers, Has}
use Rattle.span_sets.proofs.Common.{hi_of, hi_or, IfSome, in_stretch, inl, inr, IsChunkFrom}
use Rattle.span_sets.proofs.Common.{IsReplacement, IsRunsOf, Keeps, length, List, lo_of, lo_or}
use Rattle.span_sets.proofs.Common.{members_in, members_of, names_append, None, Option, Replaces}
use Rattle.span_sets.proofs.Common.{runs_least, runs_of, runs_of_chunks, Some, Span, stretch, subst}
use Rattle.span_sets.proofs.Common.{sym, ℕ}
use Rattle.span_sets.specs.Additions.{IsAt}
use Rattle.span_sets.proofs.ListsOfLists.{all_left, all_right}
use Rattle.span_sets.proofs.ChunkOrder.{chunks_each}
use Rattle.span_sets.proofs.ChunkMembers.{in_mask, in_or}
use Rattle.span_sets.proofs.ReplacementMembers.{all_set}
use Rattle.span_sets.proofs.ChunkQueries.{members_part, members_own}
use Rattle.span_sets.proofs.OrderedChunks.{chunks_back, has_append, has_left, has_right, none_below}
use Rattle.span_sets.proofs.OrderedChunks.{has_from}
use Rattle.span_sets.proofs.Replacements.{replaced_order, replaced_runs}

-- ---- the chunk at a number

begins_past : (a : ℕ) (xs : List Chunk) (e : Chunk) (ys : List Chunk) → ChunksFrom a (xs ++ e ∷ ys) → a ≤ lo_of e
begins_past a [] e ys r = r.0
begins_past a (x ∷ xs) e ys r = let whole = stretch x in omega (arith, begins_past (hi_of x + 1) xs e ys r.1, r.0)

pub ends_before : (a : ℕ) (xs : List Chunk) (e : Chunk) (ys : List Chunk) → ChunksFrom a (xs ++ e ∷ ys) → All (λ x. hi_of x < lo_of e) xs
ends_before a [] e ys r = All-nil (λ x. hi_of x < lo_of e)
ends_before a (x ∷ xs) e ys r =
    All-cons (λ t. hi_of t < lo_of e) x xs (omega (arith, begins_past (hi_of x + 1) xs e ys r.1)) (ends_before (hi_of x + 1) xs e ys r.1)

pub at_some : (chunks front : List Chunk) (e : Chunk) (back : List Chunk) (n : ℕ) → ChunksFrom 0 chunks → chunks ≡ front ++ e ∷ back → lo_of e ≤ n → n ≤ hi_of e → IsAt chunks n (Some e)
at_some chunks front e back n order parts from to =
    let rise = subst (ChunksFrom 0) parts order in
    let rest = chunks_back 0 front (e ∷ back) rise in
    let before = ends_before 0 front e back rise in
    let each = chunks_each (hi_of e + 1) back rest.1 in
    let P : Chunk → Type 0 = λ x. (hi_of x < lo_of e) ⊎ (((lo_of e ≤ lo_of x) × (hi_of x ≤ hi_of e)) ⊎ (hi_of e < lo_of x)) in
    record {
      stands = (front, (back, parts));
      from = from;
      to = to;
      apart = subst (All P) (sym parts) (All-append P front (e ∷ back) (λ k d h. inl (before k d h))
          (All-cons P e back (inr (inl (omega arith, omega arith))) (λ k d h. inr (inr (let far = each k d h in omega arith)))));
      has = λ s m. members_part chunks front e back s parts m;
      owns = λ s a b m. members_own chunks front e back (lo_of e) s order parts before a b m;
    }

pub at_none : (chunks : List Chunk) (n : ℕ) → All (λ e. hi_of e < n) chunks → IsAt chunks n None
at_none chunks n below = record {
  stands = tt;
  from = omega arith;
  to = omega arith;
  apart = λ k d h. inl (below k d h);
  has = λ s m. absurd m;
  owns = λ s a b m. none_below chunks s (λ k d h. (let end = below k d h in omega arith)) m;
}

pub at_past : (chunks front : List Chunk) (e : Chunk) (back : List Chunk) (n : ℕ) → ChunksFrom 0 chunks → chunks ≡ front ++ e ∷ back → All (λ x. hi_of x < n) front → n < lo_of e → IsAt chunks n None
at_past chunks front e back n order parts below past =
    let rise = subst (ChunksFrom 0) parts order in
    let rest = chunks_back 0 front (e ∷ back) rise in
    let from : ChunksFrom (n + 1) (e ∷ back) = (omega arith, rest.1) in
    let each = chunks_each (n + 1) (e ∷ back) from in
    let P : Chunk → Type 0 = λ x. (hi_of x < n) ⊎ (((n ≤ lo_of x) × (hi_of x ≤ n)) ⊎ (n < lo_of x)) in
    record {
      stands = tt;
      from = omega arith;
      to = omega arith;
      apart = subst (All P) (sym parts) (All-append P front (e ∷ back) (λ k d h. inl (below k d h)) (λ k d h. inr (inr (let far = each k d h in omega arith))));
      has = λ s m. absurd m;
      owns = λ s a b m. elim (has_append front (e ∷ back) s (subst (λ (l : List Chunk). Covers (members_of l) s) parts m)) [
        | inl x ↦ none_below front s (λ k d h. (let end = below k d h in omega arith)) x
        | inr y ↦ (let far = has_from (n + 1) (e ∷ back) s from y in absurd (omega arith))
      ];
    }

-- ---- the chunk from a number on

pub from_has : (chunks : List Chunk) (n s : ℕ) (o : Option Chunk) → IsChunkFrom chunks n o → Has o s → Covers (members_of chunks) s
from_has chunks n s None is m = absurd m
from_has chunks n s (Some e) is m = members_part chunks is.0 e is.1.0 s is.1.1.0 m

pub from_owns : (chunks : List Chunk) (n last s : ℕ) (o : Option Chunk) → ChunksFrom 0 chunks → IsChunkFrom chunks n o → n ≤ s → s ≤ hi_or o last → Covers (members_of chunks) s → Has o s
from_owns chunks n last s None order is from to m = none_below chunks s (λ k d h. (let end = is k d h in omega arith)) m
from_owns chunks n last s (Some e) order is from to m = members_own chunks is.0 e is.1.0 n s order is.1.1.0 is.1.1.1 from to m

-- ---- one change

-- a fact that follows for a member of each chunk follows for a member of all
members_each : (P : Chunk → Type 0) (Q : Type 0) (es : List Chunk) (s : ℕ) → ((e : Chunk) → P e → Covers (members_in e) s → Q) → All P es → Covers (members_of es) s → Q
members_each P Q [] s f h m = absurd m
members_each P Q (e ∷ es) s f h m =
    ⊎_elim (f e (All-head P e es h)) (members_each P Q es s f (All-tail P e es h)) (names_append (members_in e) (members_of es) s m)

-- The new chunks cover what the set covers between two numbers, which split none of its chunks, and what is added.
pub record Fills (old : List Chunk) (from to : ℕ) (few : List Chunk) (Added : ℕ → Type 0) : Type 0 where
  pub low : All (λ e. (hi_of e < from) ⊎ (from ≤ lo_of e)) old
  pub high : All (λ e. (hi_of e ≤ to) ⊎ (to < lo_of e)) old
  pub all : (s : ℕ) → from ≤ s → s ≤ to → Covers (members_of few) s ↔ (Covers (members_of old) s ⊎ Added s)
  pub inside : (s : ℕ) → Added s → (from ≤ s) × (s ≤ to)

fills_keeps : (old : List Chunk) (from to : ℕ) (few new : List Chunk) (Added : ℕ → Type 0) → (r : Replaces old from to few new) → IsReplacement few from to → Fills old from to few Added → Keeps r.middle few Added
fills_keeps old from to few new Added r n f =
    let mid : (P : Chunk → Type 0) → All P old → All P r.middle = λ P h. all_left P r.middle r.back (all_right P r.front (r.middle ++ r.back) (subst (All P) r.were h)) in
    let low : All (λ e. from ≤ lo_of e) r.middle = λ k d h. elim (mid (λ e. (hi_of e < from) ⊎ (from ≤ lo_of e)) f.low k d h) [
      | inl x ↦ (let at = r.inside k d h in absurd (omega (arith, at.0)))
      | inr y ↦ y
    ] in
    let high : All (λ e. hi_of e ≤ to) r.middle = λ k d h. elim (mid (λ e. (hi_of e ≤ to) ⊎ (to < lo_of e)) f.high k d h) [
      | inl x ↦ x
      | inr y ↦ (let at = r.inside k d h in absurd (omega (arith, at.1)))
    ] in
    let In : List Chunk → ℕ → Type 0 = λ l s. Covers (members_of l) s in
    let to_old : (s : ℕ) → In r.middle s → In old s =
    λ s m. subst (λ (l : List Chunk). In l s) (sym r.were) (has_right r.front (r.middle ++ r.back) s (has_left r.middle r.back s m)) in
    let to_mid : (s : ℕ) → from ≤ s → s ≤ to → In old s → In r.middle s =
    λ s a b m. elim (has_append r.front (r.middle ++ r.back) s (subst (λ (l : List Chunk). In l s) r.were m)) [
      | inl x ↦ absurd (none_below r.front s (λ k d h. (let end = r.below k d h in omega arith)) x)
      | inr y ↦ elim (has_append r.middle r.back s y) [
        | inl z ↦ z
        | inr w ↦ (members_each (λ e. to < lo_of e) (In r.middle s) r.back s (λ e h n. let at = in_stretch e s n in absurd (omega arith)) r.above w)
      ]
    ] in
    record {
      still = λ s m. let a = members_each (λ e. from ≤ lo_of e) (from ≤ s) r.middle s (λ e h n. let at = in_stretch e s n in omega arith) low m in
          let b = members_each (λ e. hi_of e ≤ to) (s ≤ to) r.middle s (λ e h n. let at = in_stretch e s n in omega arith) high m in
          (f.all s a b).1 (inl (to_old s m));
      added = λ s a. let at = f.inside s a in (f.all s at.0 at.1).1 (inr a);
      only = λ s m.
          let a = has_from from few s n.order m in
          let b = members_each (λ e. hi_of e ≤ to) (s ≤ to) few s (λ e h n. let at = in_stretch e s n in omega arith) n.ends m in
          ⊎_map (to_mid s a b) (λ x. x) ((f.all s a b).0 m);
    }

-- the runs after a change
pub fills_runs : (old : List Chunk) (from to : ℕ) (few new : List Chunk) (Added : ℕ → Type 0) → ChunksFrom 0 old → IsReplacement few from to → Fills old from to few Added → Replaces old from to few new
    → IsRunsOf (runs_of new) (λ s. Covers (runs_of old) s ⊎ Added s)
fills_runs old from to few new Added order n f r =
    let after = replaced_order old from to few new r n.between order n.order (λ k d h. (let end = n.ends k d h in omega arith)) in
    replaced_runs old from to few new Added r (fills_keeps old from to few new Added r n f) order after

-- if the added numbers are serials, so are the members of the new chunks
pub fills_serials : (old : List Chunk) (from to : ℕ) (few : List Chunk) (Added : ℕ → Type 0) → IsReplacement few from to → Fills old from to few Added → AreSerials (members_of old)
    → ((s : ℕ) → Added s → (0 < s) × (s < 2 ^ 64)) → AreSerials (members_of few)
fills_serials old from to few Added n f serials added = λ s m.
    let a = has_from from few s n.order m in
    let b = members_each (λ e. hi_of e ≤ to) (s ≤ to) few s (λ e h k. let at = in_stretch e s k in omega arith) n.ends m in
    elim ((f.all s a b).0 m) [ inl o ↦ serials s o | inr k ↦ added s k ]

-- ---- the added numbers

low_of : (chunks : List Chunk) (n : ℕ) (o : Option Chunk) → IsAt chunks n o → All (λ e. (hi_of e < lo_or o n) ⊎ (lo_or o n ≤ lo_of e)) chunks
low_of chunks n o at = λ k d h. ⊎_map (λ x. x) (⊎_elim (λ y. y.0) (λ z. let a = at.from in let b = at.to in omega arith)) (at.apart k d h)

high_of : (chunks : List Chunk) (n : ℕ) (o : Option Chunk) → IsAt chunks n o → All (λ e. (hi_of e ≤ hi_or o n) ⊎ (hi_or o n < lo_of e)) chunks
high_of chunks n o at = λ k d h. elim (at.apart k d h) [ inl x ↦ inl (let a = at.from in let b = at.to in omega arith) | inr rest ↦ ⊎_map (λ y. y.1) (λ z. z) rest ]

pub bits_fill : (old few : List Chunk) (first from to bits more : ℕ) (head tail : Option Chunk) → IsAt old first head → IsAt old (first + 63) tail → from ≡ lo_or head first → to ≡ hi_or tail (first + 63)
    → ((s : ℕ) → first ≤ s → s < first + 64 → BitCovers 64 first bits s ↔ (BitCovers 64 first more s ⊎ Covers (members_of old) s))
    → ((s : ℕ) → Covers (members_of few) s ↔ ((Has head s × (s < first)) ⊎ (BitCovers 64 first bits s ⊎ (Has tail s × (first + 63 < s))))) → Fills old from to few (λ s. BitCovers 64 first more s)
bits_fill old few first from to bits more head tail at end e f b m =
    let begins = at.from in
    let reach = at.to in
    let starts = end.from in
    let ends = end.to in
    record {
      low = subst (λ n. All (λ e. (hi_of e < n) ⊎ (n ≤ lo_of e)) old) (sym e) (low_of old first head at);
      high = subst (λ n. All (λ e. (hi_of e ≤ n) ⊎ (n < lo_of e)) old) (sym f) (high_of old (first + 63) tail end);
      all = λ s p q. (
        λ n. elim ((m s).0 n) [
          | inl h ↦ inl (at.has s h.0)
          | inr rest ↦ elim rest [
            | inl k ↦ elim ((b s k.0 k.1).0 k) [ inl new ↦ inr new | inr old_one ↦ inl old_one ]
            | inr t ↦ inl (end.has s t.0)
          ]
        ],
        λ n. (m s).1 (elim n [
          | inl o ↦ elim (cases_lt s first) [
            | inl below ↦ inl (at.owns s (omega arith) (omega arith) o, below)
            | inr since ↦ elim (cases_lt (first + 63) s) [
              | inl above ↦ inr (inr (end.owns s (omega arith) (omega arith) o, above))
              | inr upto ↦ inr (inl ((b s since (omega arith)).1 (inr o)))
            ]
          ]
          | inr k ↦ inr (inl ((b s k.0 k.1).1 (inl k)))
        ]),
      );
      inside = λ s k. (let a = k.0 in omega arith, let c = k.1 in omega arith);
    }

-- adding what is a member already changes nothing
pub adds_none : (old : List Chunk) (Added : ℕ → Type 0) → IsRunsOf (runs_of old) (λ s. Covers (members_of old) s) → ((s : ℕ) → Added s → Covers (members_of old) s) → IsRunsOf (runs_of old) (λ s. Covers (runs_of old) s ⊎ Added s)
adds_none old Added is a = (is.0, λ s. (λ n. inl n, λ n. elim n [ inl x ↦ x | inr y ↦ (is.1 s).1 (a s y) ]))

pub one_more : (old new : List Span) (lo hi : ℕ) → AddsSpan old lo hi new → length new ≤ length old + 1
one_more old new lo hi adds =
    let x : Span = record { lo = lo; hi = hi } in
    let most = runs_least new (x ∷ old) adds.0 (λ s. (λ n. ⊎_swap ((adds.1 s).0 n), λ n. (adds.1 s).1 (⊎_swap n))) in
    omega (arith, most)

-- ---- queries of the calls

pub at_member : (P : Chunk → Type 0) (chunks front : List Chunk) (e : Chunk) (back : List Chunk) → chunks ≡ front ++ e ∷ back → All P chunks → P e
at_member P chunks front e back parts h = All-head P e back (all_right P front (e ∷ back) (subst (All P) parts h))

pub tail_reaches : (chunks : List Chunk) (hi : ℕ) (tail : Option Chunk) → IsAt chunks hi tail → IfSome tail (λ e. (lo_of e ≤ hi) × (hi ≤ hi_of e))
tail_reaches chunks hi None at = tt
tail_reaches chunks hi (Some t) at = (at.from, at.to)

-- the bits that a window had, and some more
pub bits_both : (old : List Chunk) (first was more s : ℕ) → BitCovers 64 first was s ↔ Covers (members_of old) s → BitCovers 64 first (bit_or more was) s ↔ (BitCovers 64 first more s ⊎ Covers (members_of old) s)
bits_both old first was more s h =
    let both = in_or first more was s in (
      λ n. ⊎_map (λ x. x) h.0 (both.0 n),
      λ n. both.1 (⊎_map (λ x. x) h.1 n),
    )

-- a mask has the numbers from one to another in its window
pub mask_has : (lo hi mask s : ℕ) → lo / 64 ≡ hi / 64 → lo ≤ hi → mask ≡ 2 ^ (hi % 64 + 1) - 2 ^ (lo % 64) → BitCovers 64 (64 * (lo / 64)) mask s ↔ ((lo ≤ s) × (s ≤ hi))
mask_has lo hi mask s w h e =
    let base = 64 * (lo / 64) in
    let is : base ≤ s → BitCovers 64 base mask s ↔ ((base + lo % 64 ≤ s) × (s ≤ base + hi % 64)) =
    λ k. subst (λ (n : ℕ). BitCovers 64 base n s ↔ ((base + lo % 64 ≤ s) × (s ≤ base + hi % 64))) (sym e) (in_mask base (lo % 64) (hi % 64) s (omega arith) (omega arith) k) in (
      λ n. let at = (is n.0).0 n in (omega (arith, at.0), omega (arith, at.1)),
      λ k. let a = k.0 in let b = k.1 in (is (omega arith)).1 (omega arith, omega arith),
    )

pub adds_mask : (old new : List Span) (lo hi mask : ℕ) → lo / 64 ≡ hi / 64 → lo ≤ hi → mask ≡ 2 ^ (hi % 64 + 1) - 2 ^ (lo % 64) → IsRunsOf new (λ s. Covers old s ⊎ BitCovers 64 (64 * (lo / 64)) mask s) → AddsSpan old lo hi new
adds_mask old new lo hi mask w h e is = (
  is.0,
  λ s. (
    λ n. ⊎_map (λ o. o) (mask_has lo hi mask s w h e).0 ((is.1 s).0 n),
    λ n. (is.1 s).1 (⊎_map (λ o. o) (mask_has lo hi mask s w h e).1 n),
  ),
)

-- if a window gets full, the addition is every number of it that is not in the set
pub fills_window : (old : List Chunk) (first was more s : ℕ) → bit_or more was ≡ 2 ^ 64 - 1 → ((t : ℕ) → first ≤ t → t < first + 64 → BitCovers 64 first was t ↔ Covers (members_of old) t)
    → first ≤ s → s < first + 64 → BitCovers 64 first more s ⊎ Covers (members_of old) s
fills_window old first was more s all has from to =
    (bits_both old first was more s (has s from to)).0 (all_set first (bit_or more was) s all from to)

pub adds_window : (old : List Chunk) (new : List Span) (first was more : ℕ) → ChunksFrom 0 old → bit_or more was ≡ 2 ^ 64 - 1 → ((t : ℕ) → first ≤ t → t < first + 64 → BitCovers 64 first was t ↔ Covers (members_of old) t)
    → AddsSpan (runs_of old) first (first + 63) new → IsRunsOf new (λ s. Covers (runs_of old) s ⊎ BitCovers 64 first more s)
adds_window old new first was more order all has adds = (
  adds.0,
  λ s. (
    λ n. elim ((adds.1 s).0 n) [
      | inl o ↦ inl o
      | inr k ↦ elim (fills_window old first was more s all has k.0 (let b = k.1 in omega arith)) [ inl y ↦ inr y | inr x ↦ inl (((runs_of_chunks old order).1 s).1 x) ]
    ],
    λ n. (adds.1 s).1 (⊎_map (λ o. o) (λ k. (k.0, let b = k.1 in omega arith)) n),
  ),
)
