-- Positions in a list of chunks: where a number is, where the list ends, and which chunks are
-- removed.
use Rattle.std.specs.Prelude.{◌≡◌, ℕ, ◌+◌, ◌*◌, ◌≤◌, ◌<◌, ◌⊎◌, ◌↔◌, List, [], ◌∷◌, ◌++◌}
use Rattle.std.specs.Prelude.{Option, Some, None, All, false}
use Rattle.span_sets.specs.declared.chunk.Chunk.{Chunk}
use Rattle.span_sets.specs.Chunk.{is_span, members_in, lo_of, hi_of}
use Rattle.serial_set.specs.Span.{Covers}
use Rattle.span_sets.specs.Tight.{IsFull}
use Rattle.span_sets.specs.Blocks.{BitCovers}

-- the end of the last chunk, and 0 if there is none
abbrev pub end_of : List Chunk → ℕ
end_of [] = 0
end_of (e ∷ []) = hi_of e
end_of (e ∷ (next ∷ chunks)) = end_of (next ∷ chunks)

-- the first chunk that ends at a number or past it
abbrev pub IsChunkFrom : List Chunk → ℕ → Option Chunk → Type 0
IsChunkFrom chunks number None = All (λ e. hi_of e < number) chunks
IsChunkFrom chunks number (Some chunk) =
    (front : List Chunk) × ((back : List Chunk) × ((chunks ≡ front ++ chunk ∷ back)
    × All (λ e. hi_of e < number) front × (number ≤ hi_of chunk)))

-- consecutive chunks in one slice, from the first that ends at a number or past it on; the slice is
-- empty only if there is no such chunk
pub record IsListFrom (chunks : List Chunk) (number : ℕ) (part : List Chunk) : Type 0 where
  pub front : List Chunk
  pub back : List Chunk
  pub parts : chunks ≡ front ++ (part ++ back)
  pub below : All (λ e. hi_of e < number) front
  pub reach : All (λ e. number ≤ hi_of e) part
  pub some : part ≡ [] → back ≡ []

-- what is left after removing the chunks that begin at a number or below it
pub record CutTo (old : List Chunk) (number : ℕ) (new : List Chunk) : Type 0 where
  pub gone : List Chunk
  pub were : old ≡ gone ++ new
  pub inside : All (λ e. lo_of e ≤ number) gone
  pub above : All (λ e. number < lo_of e) new

-- the block of a window gets more bits, but not all
pub record Widened (was : Chunk) (window bits : ℕ) (is : Chunk) : Type 0 where
  pub block : is_span is ≡ false
  pub lo : (lo_of was ≡ 64 * window) × (lo_of is ≡ 64 * window)
  pub hi : (hi_of was ≡ 64 * window + 63) × (hi_of is ≡ 64 * window + 63)
  pub more : (s : ℕ) → Covers (members_in is) s
      ↔ (Covers (members_in was) s ⊎ BitCovers 64 (64 * window) bits s)
  pub gap : IsFull is → ⊥

-- the block of a window gets more bits, and nothing else changes
pub record BlockWidened (old : List Chunk) (window bits : ℕ) (new : List Chunk) : Type 0 where
  pub front : List Chunk
  pub back : List Chunk
  pub was : Chunk
  pub is : Chunk
  pub were : old ≡ front ++ was ∷ back
  pub are : new ≡ front ++ is ∷ back
  pub block : Widened was window bits is
