-- A set's chunks: queries, and the result of one change.
use Rattle.span_sets.proofs.Common.{[], ⊎_elim, ⊎_map, ◌*◌, ◌++◌, ◌+◌, ◌<◌, ◌^◌, ◌↔◌, ◌∙◌, ◌∷◌, ◌≡◌}
use Rattle.span_sets.proofs.Common.{◌≤◌, ◌⊎◌, All, All-nil, All-weaker, AreSerials, arith}
use Rattle.span_sets.proofs.Common.{BitCovers, Bool, Chunk, ChunksFrom, Covers, Err, false, hi_of}
use Rattle.span_sets.proofs.Common.{inl, inr, IsChunkFrom, IsRunsOf, IsTrue, List, lo_of}
use Rattle.span_sets.proofs.Common.{members_in, members_of, names_append, names_left, Ok, OnErr}
use Rattle.span_sets.proofs.Common.{OnOk, refl, Replaces, Result, runs_of, runs_of_chunks, Some}
use Rattle.span_sets.proofs.Common.{subst, sym, true, BlockWidened, ℕ}
use Rattle.span_sets.proofs.OrderedChunks.{has_append, has_left, has_right, has_from, none_below}
use Rattle.span_sets.proofs.OrderedChunks.{chunks_back}
use Rattle.span_sets.proofs.Replacements.{replaced_order}

-- a member of one chunk is a member of all
pub members_part : (chunks front : List Chunk) (e : Chunk) (back : List Chunk) (s : ℕ) → chunks ≡ front ++ e ∷ back → Covers (members_in e) s → Covers (members_of chunks) s
members_part chunks front e back s parts n =
    subst (λ (l : List Chunk). Covers (members_of l) s) (sym parts) (has_right front (e ∷ back) s (names_left (members_in e) (members_of back) s n))

-- and a member past the chunks before, and at most the end of a chunk, is the chunk's own
pub members_own : (chunks front : List Chunk) (e : Chunk) (back : List Chunk) (n s : ℕ) → ChunksFrom 0 chunks → chunks ≡ front ++ e ∷ back → All (λ x. hi_of x < n) front → n ≤ s → s ≤ hi_of e
    → Covers (members_of chunks) s → Covers (members_in e) s
members_own chunks front e back n s order parts below from to m =
    let rise = subst (ChunksFrom 0) parts order in
    let rest = chunks_back 0 front (e ∷ back) rise in
    let ends : All (λ x. hi_of x < s) front = λ k d h. (let end = below k d h in omega arith) in
    elim (has_append front (e ∷ back) s (subst (λ (l : List Chunk). Covers (members_of l) s) parts m)) [
      | inl x ↦ absurd (none_below front s ends x)
      | inr y ↦ elim (names_append (members_in e) (members_of back) s y) [
        | inl here ↦ here
        | inr later ↦ (let far = has_from (hi_of e + 1) back s rest.1 later in absurd (omega arith))
      ]
    ]

-- the chunk that reaches a number decides whether it is a member
pub asked : (es : List Chunk) (e : Chunk) (s : ℕ) → ChunksFrom 0 es → IsChunkFrom es s (Some e) → Covers (members_in e) s ↔ Covers (members_of es) s
asked es e s order k =
    (members_part es k.0 e k.1.0 s k.1.1.0, members_own es k.0 e k.1.0 s s order k.1.1.0 k.1.1.1 (omega arith) k.1.1.2)

-- if some chunks replace others, each member was one before or is one of theirs
parts_only : (old new front middle few back : List Chunk) (s : ℕ) → old ≡ front ++ (middle ++ back) → new ≡ front ++ (few ++ back)
    → Covers (members_of new) s → Covers (members_of old) s ⊎ Covers (members_of few) s
parts_only old new front middle few back s were are n =
    let In : List Chunk → Type 0 = λ l. Covers (members_of l) s in
    elim (has_append front (few ++ back) s (subst In are n)) [
      | inl early ↦ inl (subst In (sym were) (has_left front (middle ++ back) s early))
      | inr rest ↦ elim (has_append few back s rest) [
        | inl here ↦ inr here
        | inr after ↦ inl (subst In (sym were) (has_right front (middle ++ back) s (has_right middle back s after)))
      ]
    ]

pub replaced_serials : (old few new : List Chunk) (lo hi : ℕ) → Replaces old lo hi few new → AreSerials (members_of old) → AreSerials (members_of few) → AreSerials (members_of new)
replaced_serials old few new lo hi r was added s n =
    ⊎_elim (was s) (added s) (parts_only old new r.front r.middle few r.back s r.were r.are n)

pub replaced_rise : (old few new : List Chunk) (lo hi : ℕ) → Replaces old lo hi few new → lo ≤ hi → ChunksFrom 0 old → ChunksFrom lo few → All (λ e. hi_of e ≤ hi) few → ChunksFrom 0 new
replaced_rise old few new lo hi r h order rise ends =
    replaced_order old lo hi few new r h order rise (All-weaker (λ e. hi_of e ≤ hi) (λ e. hi_of e < hi + 1) (λ e k. omega arith) few ends)

pub one_has : (e : Chunk) (s : ℕ) → Covers (members_of (e ∷ [])) s ↔ Covers (members_in e) s
one_has e s = (λ n. elim (names_append (members_in e) [] s n) [ inl x ↦ x | inr none ↦ absurd none ], λ n. names_left (members_in e) [] s n)

-- the first chunks of a set
pub replaced_none : (few : List Chunk) (lo hi : ℕ) → Replaces [] lo hi few (few ++ [])
replaced_none few lo hi = record {
  front = [];
  middle = [];
  back = [];
  were = refl;
  are = refl;
  below = All-nil (λ e. hi_of e < lo);
  inside = All-nil (λ e. (lo ≤ hi_of e) × (lo_of e ≤ hi));
  above = All-nil (λ e. hi < lo_of e);
}

-- what a clause promises for each result
pub ok_or_err : {A E : Type 0} (r : Result A E) (P Q : Type 0) → OnOk r P → OnErr r Q → P ⊎ Q
ok_or_err (Ok x) P Q p q = inl p
ok_or_err (Err e) P Q p q = inr q

pub true_or_false : (b : Bool) (P Q : Type 0) → (IsTrue b → P) → (b ≡ false → Q) → P ⊎ Q
true_or_false true P Q p q = inl (p refl)
true_or_false false P Q p q = inr (q refl)

-- ---- a block that gets more bits

swapped_order : (a : ℕ) (front back : List Chunk) (was is : Chunk) → lo_of is ≡ lo_of was → hi_of is ≡ hi_of was → ChunksFrom a (front ++ was ∷ back) → ChunksFrom a (front ++ is ∷ back)
swapped_order a [] back was is lo hi r = (omega (arith, lo, r.0), subst (λ n. ChunksFrom (n + 1) back) (sym hi) r.1)
swapped_order a (x ∷ front) back was is lo hi r = (r.0, swapped_order (hi_of x + 1) front back was is lo hi r.1)

pub widened_order : (old new : List Chunk) (window bits : ℕ) → BlockWidened old window bits new → ChunksFrom 0 old → ChunksFrom 0 new
widened_order old new window bits k order =
    subst (ChunksFrom 0) (sym k.are)
    (swapped_order 0 k.front k.back k.was k.is (k.block.lo.1 ∙ sym k.block.lo.0) (k.block.hi.1 ∙ sym k.block.hi.0) (subst (ChunksFrom 0) k.were order))

widened_to : (old new : List Chunk) (window bits s : ℕ) → BlockWidened old window bits new → Covers (members_of new) s → Covers (members_of old) s ⊎ BitCovers 64 (64 * window) bits s
widened_to old new window bits s k n =
    ⊎_elim inl (λ here. ⊎_map (members_part old k.front k.was k.back s k.were) (λ added. added) ((k.block.more s).0 ((one_has k.is s).0 here)))
    (parts_only old new k.front (k.was ∷ []) (k.is ∷ []) k.back s k.were k.are n)

widened_from : (old new : List Chunk) (window bits s : ℕ) → BlockWidened old window bits new → Covers (members_of old) s ⊎ BitCovers 64 (64 * window) bits s → Covers (members_of new) s
widened_from old new window bits s k n =
    let block : Covers (members_in k.was) s ⊎ BitCovers 64 (64 * window) bits s → Covers (members_of new) s = λ m. members_part new k.front k.is k.back s k.are ((k.block.more s).1 m) in
    elim n [
      | inl was ↦ ⊎_elim (λ m. m) (λ here. block (inl ((one_has k.was s).0 here))) (parts_only new old k.front (k.is ∷ []) (k.was ∷ []) k.back s k.are k.were was)
      | inr added ↦ block (inr added)
    ]

pub widened_serials : (old new : List Chunk) (window bits : ℕ) → BlockWidened old window bits new → window < 2 ^ 58 → ((s : ℕ) → BitCovers 64 (64 * window) bits s → 0 < s) → AreSerials (members_of old) → AreSerials (members_of new)
widened_serials old new window bits k h positive was s n =
    elim (widened_to old new window bits s k n) [ inl m ↦ was s m | inr added ↦ (positive s added, omega (arith, added.1)) ]

pub widened_runs : (old new : List Chunk) (window bits : ℕ) → BlockWidened old window bits new → ChunksFrom 0 old → IsRunsOf (runs_of new) (λ s. Covers (runs_of old) s ⊎ BitCovers 64 (64 * window) bits s)
widened_runs old new window bits k order =
    let was = runs_of_chunks old order in
    let is = runs_of_chunks new (widened_order old new window bits k order) in (
      is.0,
      λ s. (
        λ n. ⊎_map (was.1 s).1 (λ added. added) (widened_to old new window bits s k ((is.1 s).0 n)),
        λ n. (is.1 s).1 (widened_from old new window bits s k (⊎_map (was.1 s).0 (λ added. added) n)),
      ),
    )
