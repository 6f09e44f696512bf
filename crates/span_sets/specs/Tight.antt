-- Tight chunks, of which a set needs few: none is empty, no block is full, and no two spans touch.
use Rattle.std.specs.Prelude.{◌≡◌, ℕ, ◌+◌, ◌*◌, ◌≤◌, ◌<◌, List, All, true, false, bit_or}
use Rattle.span_sets.specs.declared.chunk.Chunk.{Chunk}
use Rattle.serial_set.specs.Span.{Covers}
use Rattle.span_sets.specs.Chunk.{is_span, window_of, bits_of, members_in, lo_of, hi_of}
use Rattle.span_sets.specs.Blocks.{singles}

-- the chunk has no member
abbrev pub IsEmpty : Chunk → Type 0
IsEmpty e = (s : ℕ) → Covers (members_in e) s → ⊥

-- all numbers of its stretch are members
abbrev pub IsFull : Chunk → Type 0
IsFull e = (s : ℕ) → lo_of e ≤ s → s ≤ hi_of e → Covers (members_in e) s

-- a chunk that is not empty, and is a span if it is full
abbrev pub IsTight : Chunk → Type 0
IsTight e = (IsEmpty e → ⊥) × (is_span e ≡ false → IsFull e → ⊥)

-- if both are spans, the second does not begin directly after the first
abbrev pub Apart : Chunk → Chunk → Type 0
Apart e f = is_span e ≡ true → is_span f ≡ true → hi_of e + 1 ≡ lo_of f → ⊥

abbrev pub AreTight : List Chunk → Type 0
AreTight chunks = All IsTight chunks × All (λ e. All (Apart e) chunks) chunks

-- the chunks `few` may replace all that reach into the numbers from lo to hi
pub record KeepsTight (old : List Chunk) (lo hi : ℕ) (few : List Chunk) : Type 0 where
  pub tight : AreTight few
  pub low : All (λ e. hi_of e < lo → All (Apart e) few) old
  pub high : All (λ e. hi < lo_of e → All (λ f. Apart f e) few) old

-- a block with more bits, but not all that its window has
pub record HasBits (was : Chunk) (bits : ℕ) (is : Chunk) : Type 0 where
  pub lo : lo_of is ≡ lo_of was
  pub hi : hi_of is ≡ hi_of was
  pub block : is_span is ≡ false
  pub members : members_in is ≡ singles 64 (64 * window_of was) (bit_or (bits_of was) bits)
  pub gap : IsFull is → ⊥
