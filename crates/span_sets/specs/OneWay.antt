-- The fact of a ghost field has at most one proof, as ghost fields require. The code cites this,
-- and it cannot cite proofs/.
use Rattle.std.specs.Prelude.{ℕ, ◌+◌, List, [], ◌∷◌}
use Rattle.std.specs.Coded.{Unit-prop, le_prop}
use Rattle.span_sets.specs.declared.chunk.Chunk.{Chunk}
use Rattle.span_sets.specs.Chunk.{hi_of, ChunksFrom}

-- chunks are in order in one way only
pub order_prop : (least : ℕ) (chunks : List Chunk) → IsProp (ChunksFrom least chunks)
order_prop least [] = Unit-prop
order_prop least (e ∷ chunks) =
    let rest : IsProp (ChunksFrom (hi_of e + 1) chunks) = order_prop (hi_of e + 1) chunks in
    hlevel (le_prop, rest)
