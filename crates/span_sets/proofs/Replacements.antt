-- The effect of one change on the order, the members and the runs of chunks.
use Rattle.span_sets.proofs.Common.{◌++◌, ◌+◌, ◌<◌, ◌≤◌, ◌⊎◌, All, All-weaker, arith, Chunk}
use Rattle.span_sets.proofs.Common.{ChunksFrom, Covers, hi_of, inl, inr, IsRunsOf, Keeps, List}
use Rattle.span_sets.proofs.Common.{lo_of, members_of, Replaces, runs_of, runs_of_chunks, subst}
use Rattle.span_sets.proofs.Common.{sym, ℕ}
use Rattle.span_sets.proofs.OrderedChunks.{chunks_raise, chunks_front, chunks_back, chunks_join}
use Rattle.span_sets.proofs.OrderedChunks.{has_append, has_left, has_right}

pub replaced_order : (old : List Chunk) (lo hi : ℕ) (few new : List Chunk)
    → Replaces old lo hi few new → lo ≤ hi → ChunksFrom 0 old → ChunksFrom lo few
    → All (λ e. hi_of e < hi + 1) few → ChunksFrom 0 new
replaced_order old lo hi few new r h order rise ends =
    let whole = subst (ChunksFrom 0) r.were order in
    let back = chunks_back 0 r.middle r.back (chunks_back 0 r.front (r.middle ++ r.back) whole) in
    let past = All-weaker (λ e. hi < lo_of e) (λ e. hi + 1 ≤ lo_of e) (λ e k. omega arith) r.back
    r.above in
    let following = chunks_raise 0 (hi + 1) r.back back past in
    let rest = chunks_join lo (hi + 1) few r.back (omega arith) rise ends following in
    subst (ChunksFrom 0) (sym r.are)
    (chunks_join 0 lo r.front (few ++ r.back) (omega arith)
    (chunks_front 0 r.front (r.middle ++ r.back) whole) r.below rest)

pub replaced_to : (old : List Chunk) (lo hi : ℕ) (few new : List Chunk) (Added : ℕ → Type 0)
    → (r : Replaces old lo hi few new) → Keeps r.middle few Added → (s : ℕ)
    → Covers (members_of new) s → Covers (members_of old) s ⊎ Added s
replaced_to old lo hi few new Added r k s n =
    let In : List Chunk → Type 0 = λ l. Covers (members_of l) s in
    let back : In (r.front ++ (r.middle ++ r.back)) → In old = λ m. subst In (sym r.were) m in
    elim (has_append r.front (few ++ r.back) s (subst In r.are n)) [
      | inl front ↦ inl (back (has_left r.front (r.middle ++ r.back) s front))
      | inr rest ↦ elim (has_append few r.back s rest) [
        | inl here ↦ elim (k.only s here) [
          | inl was ↦ inl (back (has_right r.front (r.middle ++ r.back) s
              (has_left r.middle r.back s was)))
          | inr added ↦ inr added
        ]
        | inr following ↦ inl (back (has_right r.front (r.middle ++ r.back) s
            (has_right r.middle r.back s following)))
      ]
    ]

pub replaced_from : (old : List Chunk) (lo hi : ℕ) (few new : List Chunk) (Added : ℕ → Type 0)
    → (r : Replaces old lo hi few new) → Keeps r.middle few Added → (s : ℕ)
    → Covers (members_of old) s ⊎ Added s → Covers (members_of new) s
replaced_from old lo hi few new Added r k s n =
    let In : List Chunk → Type 0 = λ l. Covers (members_of l) s in
    let to : In (r.front ++ (few ++ r.back)) → In new = λ m. subst In (sym r.are) m in
    let new_here : In few → In new =
    λ m. to (has_right r.front (few ++ r.back) s (has_left few r.back s m)) in
    elim n [
      | inl was ↦ elim (has_append r.front (r.middle ++ r.back) s (subst In r.were was)) [
        | inl front ↦ to (has_left r.front (few ++ r.back) s front)
        | inr rest ↦ elim (has_append r.middle r.back s rest) [
          | inl here ↦ new_here (k.still s here)
          | inr following ↦ to (has_right r.front (few ++ r.back) s
              (has_right few r.back s following))
        ]
      ]
      | inr added ↦ new_here (k.added s added)
    ]

-- the runs after a change are those of the members before and the added numbers
pub replaced_runs : (old : List Chunk) (lo hi : ℕ) (few new : List Chunk) (Added : ℕ → Type 0)
    → (r : Replaces old lo hi few new) → Keeps r.middle few Added → ChunksFrom 0 old
    → ChunksFrom 0 new → IsRunsOf (runs_of new) (λ s. Covers (runs_of old) s ⊎ Added s)
replaced_runs old lo hi few new Added r k order after =
    let was = runs_of_chunks old order in
    let is = runs_of_chunks new after in (
      is.0,
      λ s. (
        λ n. elim (replaced_to old lo hi few new Added r k s ((is.1 s).0 n)) [
          | inl m ↦ inl ((was.1 s).1 m)
          | inr added ↦ inr added
        ],
        λ n. (is.1 s).1 (replaced_from old lo hi few new Added r k s (elim n [
          | inl m ↦ inl ((was.1 s).0 m)
          | inr added ↦ inr added
        ])),
      ),
    )
