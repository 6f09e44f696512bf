-- Chunks that replace those that an addition meets.
use Rattle.std.specs.Prelude.{ℕ, ◌≤◌, ◌<◌, List, Option, Some, None, All, length}
use Rattle.span_sets.specs.declared.chunk.Chunk.{Chunk}
use Rattle.serial_set.specs.Span.{Covers}
use Rattle.span_sets.specs.Chunk.{members_in, lo_of, hi_of, ChunksFrom}

-- s is a member of the chunk, if there is one
abbrev pub Has : Option Chunk → ℕ → Type 0
Has None s = ⊥
Has (Some e) s = Covers (members_in e) s

-- where the chunk begins, or a number if there is none
abbrev pub lo_or : Option Chunk → ℕ → ℕ
lo_or None number = number
lo_or (Some e) number = lo_of e

-- where the chunk ends, or a number if there is none
abbrev pub hi_or : Option Chunk → ℕ → ℕ
hi_or None number = number
hi_or (Some e) number = hi_of e

-- chunks that rise within the numbers from lo to hi
pub record IsReplacement (few : List Chunk) (lo hi : ℕ) : Type 0 where
  pub some : 0 < length few
  pub order : ChunksFrom lo few
  pub ends : All (λ e. hi_of e ≤ hi) few
  pub between : lo ≤ hi
