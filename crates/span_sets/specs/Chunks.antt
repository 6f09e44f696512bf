-- How one change replaces chunks, and which members it keeps.
use Rattle.std.specs.Prelude.{◌≡◌, ℕ, ◌<◌, ◌≤◌, ◌⊎◌, List, ◌++◌}
use Rattle.std.specs.List.{All}
use Rattle.span_sets.specs.declared.chunk.Chunk.{Chunk}
use Rattle.serial_set.specs.Span.{Covers}
use Rattle.span_sets.specs.Chunk.{lo_of, hi_of, members_of}

-- the chunks `few` replace all that reach into the numbers from lo to hi
pub record Replaces (old : List Chunk) (lo hi : ℕ) (few new : List Chunk) : Type 0 where
  pub front : List Chunk
  pub middle : List Chunk
  pub back : List Chunk
  pub were : old ≡ front ++ (middle ++ back)
  pub are : new ≡ front ++ (few ++ back)
  pub below : All (λ e. hi_of e < lo) front
  pub inside : All (λ e. (lo ≤ hi_of e) × (lo_of e ≤ hi)) middle
  pub above : All (λ e. hi < lo_of e) back

-- the new chunks cover all members of those that they replace, and no others except the added ones
pub record Keeps (middle few : List Chunk) (Added : ℕ → Type 0) : Type 0 where
  pub still : (s : ℕ) → Covers (members_of middle) s → Covers (members_of few) s
  pub added : (s : ℕ) → Added s → Covers (members_of few) s
  pub only : (s : ℕ) → Covers (members_of few) s → Covers (members_of middle) s ⊎ Added s
