-- The first of the members from a number on, and members that follow each other.
use Rattle.std.specs.Prelude.{◌≡◌, ℕ, ◌≤◌, ◌<◌, ◌↔◌, List, Option, Some, None}
use Rattle.std.specs.Int.{bit_at}
use Rattle.serial_set.specs.declared.span.Span.{Span}
use Rattle.span_sets.specs.declared.chunk.Chunk.{Chunk}
use Rattle.span_sets.specs.Chunk.{hi_of, members_in}
use Rattle.serial_set.specs.Span.{Covers, IsRunsOf}

-- the first of the lowest 64 bits that is set, from a bit on
abbrev pub IsFirstBit : ℕ → ℕ → Option ℕ → Type 0
IsFirstBit bits bit None = (i : ℕ) → bit ≤ i → i < 64 → bit_at bits i ≡ 0
IsFirstBit bits bit (Some at) =
    (bit ≤ at) × (at < 64) × (bit_at bits at ≡ 1)
    × ((i : ℕ) → bit ≤ i → i < at → bit_at bits i ≡ 0)

-- the first member from a number on
abbrev pub IsFirst : List Span → ℕ → Option ℕ → Type 0
IsFirst spans number None = (s : ℕ) → number ≤ s → Covers spans s → ⊥
IsFirst spans number (Some first) =
    (number ≤ first) × Covers spans first
    × ((s : ℕ) → number ≤ s → s < first → Covers spans s → ⊥)

-- all numbers from one to another are members
pub record GoesOn (spans : List Span) (from to : ℕ) : Type 0 where
  pub order : from ≤ to
  pub all : (s : ℕ) → from ≤ s → s ≤ to → Covers spans s

-- the runs of the members from one number up to another
pub record Taken (spans : List Span) (number at : ℕ) (runs : List Span) : Type 0 where
  pub from : number ≤ at
  pub are : IsRunsOf runs (λ s. (number ≤ s) × (s < at) × Covers spans s)

-- up to the end of a chunk, the members from `at` on are the chunk's own from `number` on
pub record Reads (spans : List Span) (at : ℕ) (chunk : Chunk) (number : ℕ) : Type 0 where
  pub from : number ≤ hi_of chunk
  pub to : at ≤ hi_of chunk
  pub same : (s : ℕ) → s ≤ hi_of chunk
      → ((at ≤ s) × Covers spans s) ↔ ((number ≤ s) × Covers (members_in chunk) s)
