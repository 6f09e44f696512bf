-- Members that are found one after another, and their runs.
use Rattle.span_sets.proofs.Common.{◌≤◌, AreSerials, arith, Chunk, ChunksFrom, Covers, GoesOn}
use Rattle.span_sets.proofs.Common.{hi_of, IsChunkFrom, IsFirst, List, members_in, members_of, None}
use Rattle.span_sets.proofs.Common.{runs_of, runs_of_chunks, Some, ℕ}
use Rattle.span_sets.proofs.ChunkQueries.{asked}
use Rattle.span_sets.proofs.OrderedChunks.{none_below}

-- the first chunk from a number on is also the first from each later number that it reaches
pub from_on : (es : List Chunk) (e : Chunk) (n s : ℕ) → IsChunkFrom es n (Some e) → n ≤ s → s ≤ hi_of e → IsChunkFrom es s (Some e)
from_on es e n s k h reach =
    (k.0, (k.1.0, (k.1.1.0, (λ i d q. let at = k.1.1.1 i d q in omega arith), reach)))

-- ---- the first member

pub first_in : (es : List Chunk) (e : Chunk) (n first : ℕ) → ChunksFrom 0 es → IsChunkFrom es n (Some e) → first ≤ hi_of e → IsFirst (members_in e) n (Some first) → IsFirst (members_of es) n (Some first)
first_in es e n first order k reach f = (
  f.0,
  (asked es e first order (from_on es e n first k f.0 reach)).0 f.1,
  λ s h l m. f.2 s h l ((asked es e s order (from_on es e n s k h (omega arith))).1 m),
)

pub none_in : (es : List Chunk) (e : Chunk) (n s : ℕ) → ChunksFrom 0 es → IsChunkFrom es n (Some e) → IsFirst (members_in e) n None → n ≤ s → s ≤ hi_of e → Covers (members_of es) s → ⊥
none_in es e n s order k f h l m = f s h ((asked es e s order (from_on es e n s k h l)).1 m)

pub no_chunk : (es : List Chunk) (n : ℕ) → IsChunkFrom es n None → IsFirst (members_of es) n None
no_chunk es n k s h m = none_below es s (λ i d q. let at = k i d q in omega arith) m

-- ---- members that follow each other

pub goes_in : (es : List Chunk) (e : Chunk) (n last : ℕ) → ChunksFrom 0 es → IsChunkFrom es n (Some e) → last ≤ hi_of e → GoesOn (members_in e) n last → GoesOn (members_of es) n last
goes_in es e n last order k reach g = record {
  order = g.order;
  all = λ s h l. (asked es e s order (from_on es e n s k h (omega arith))).0 (g.all s h l);
}

pub serials_of : (es : List Chunk) → ChunksFrom 0 es → AreSerials (members_of es) → AreSerials (runs_of es)
serials_of es order fits s m = let runs = runs_of_chunks es order in fits s ((runs.1 s).0 m)
