-- Pages of chunks.
use Rattle.std.specs.Prelude.{◌≡◌, ℕ, ◌+◌, ◌<◌, ◌≤◌, List, length, take, drop, slice_index_or, All}
use Rattle.std.specs.List.{flat_map}
use Rattle.span_sets.specs.declared.chunk.Chunk.{Chunk}
use Rattle.span_sets.specs.declared.page.Page.{Page}
use Rattle.span_sets.specs.Chunk.{hi_of}

-- the chunks of a page
abbrev pub chunks_in : Page → List Chunk
chunks_in page = page.items.items

-- the chunks of a list of pages
abbrev pub chunks_of : List Page → List Chunk
chunks_of pages = flat_map chunks_in pages

-- the page where chunks from a number on belong, which has room for a change
pub record IsPageFor (pages : List Page) (lo at : ℕ) : Type 0 where
  pub within : at < length pages
  pub below : All (λ e. hi_of e < lo) (chunks_of (take at pages))
  pub after : All (λ e. lo ≤ hi_of e) (chunks_of (drop (at + 1) pages))
  pub room : (d : Page) → length (chunks_in (slice_index_or pages at d)) ≤ 253

-- one page is split into two, and each of them has room
pub record IsSplit (old : List Page) (at : ℕ) (new : List Page) : Type 0 where
  pub within : at + 1 < length new
  pub before : take at new ≡ take at old
  pub after : drop (at + 2) new ≡ drop (at + 1) old
  pub front : (d : Page) → length (chunks_in (slice_index_or new at d)) ≤ 253
  pub back : (d : Page) → length (chunks_in (slice_index_or new (at + 1) d)) ≤ 253
