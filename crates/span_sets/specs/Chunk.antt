-- Chunks of a set: spans, and blocks, which are the members in one window of 64 numbers.
use Rattle.std.proofs.Common.{ℕ, ◌+◌, ◌-◌, ◌*◌, ◌/◌, ◌%◌, ◌^◌, ◌≤◌, List, [], ◌∷◌}
use Rattle.std.specs.Prelude.{Bool, true, false, nat_eq, nat_le, ⊤}
use Rattle.std.specs.List.{flat_map}
use Rattle.serial_set.specs.declared.span.Span.{Span}
use Rattle.span_sets.specs.declared.chunk.Chunk.{Chunk}
use Rattle.serial_set.specs.Joined.{joined}
use Rattle.span_sets.specs.Blocks.{singles}

-- a span has its ends in order, a block does not
abbrev pub is_span : Chunk → Bool
is_span e = nat_le e.a e.b

abbrev pub window_of : Chunk → ℕ
window_of e = e.b / 2

-- the highest bit is the lowest of b
abbrev pub bits_by : Bool → ℕ → ℕ
bits_by true a = a
bits_by false a = a - 2 ^ 63

abbrev pub bits_of : Chunk → ℕ
bits_of e = bits_by (nat_eq (e.b % 2) 1) e.a

-- the members of a chunk, by whether it is a span
abbrev pub members_by : Bool → Chunk → List Span
members_by true e = record { lo = e.a; hi = e.b } ∷ []
members_by false e = singles 64 (64 * window_of e) (bits_of e)

-- the chunk's members as spans that rise
abbrev pub members_in : Chunk → List Span
members_in e = members_by (is_span e) e

abbrev pub lo_by : Bool → Chunk → ℕ
lo_by true e = e.a
lo_by false e = 64 * window_of e

abbrev pub hi_by : Bool → Chunk → ℕ
hi_by true e = e.b
hi_by false e = 64 * window_of e + 63

-- the stretch of numbers that belongs to the chunk alone: a span itself, and the window of a block
abbrev pub lo_of : Chunk → ℕ
lo_of e = lo_by (is_span e) e

abbrev pub hi_of : Chunk → ℕ
hi_of e = hi_by (is_span e) e

-- the stretches begin at `least` or above, and each next one past the end of the one before
abbrev pub ChunksFrom : ℕ → List Chunk → Type 0
ChunksFrom least [] = ⊤
ChunksFrom least (e ∷ chunks) = (least ≤ lo_of e) × ChunksFrom (hi_of e + 1) chunks

abbrev pub members_of : List Chunk → List Span
members_of chunks = flat_map members_in chunks

-- the runs of chunks in order
abbrev pub runs_of : List Chunk → List Span
runs_of chunks = joined (members_of chunks)
