-- The two ends of a span that is added to a set.
use Rattle.std.specs.Prelude.{◌≡◌, ℕ, ◌+◌, ◌*◌, ◌/◌, ◌≤◌, ◌<◌, ◌⊎◌, ◌↔◌, List, Option, IfSome}
use Rattle.std.specs.Prelude.{All, true, false}
use Rattle.span_sets.specs.declared.chunk.Chunk.{Chunk}
use Rattle.serial_set.specs.Span.{Covers}
use Rattle.span_sets.specs.Chunk.{is_span, lo_of, hi_of, members_of}
use Rattle.span_sets.specs.Replacement.{lo_or, hi_or, Has}
use Rattle.span_sets.specs.Tight.{IsTight}

-- Where an added span from `lo` on begins: at `at`, with a block before it if it shares its first
-- window with one and does not fill it. No chunk is split there, and no span ends directly before.
pub record IsLowerSide (chunks : List Chunk) (lo : ℕ) (block : Option Chunk) (at : ℕ) : Type 0 where
  pub from : lo_or block at ≤ lo
  pub reach : at ≤ 64 * ((lo + 63) / 64)
  pub shared : IfSome block (λ w. (hi_of w + 1 ≡ at) × (is_span w ≡ false) × IsTight w)
  pub cut : All (λ e. (hi_of e < lo_or block at) ⊎ (lo_or block at ≤ lo_of e)) chunks
  pub has : (s : ℕ) → lo_or block at ≤ s → s < at
      → Has block s ↔ (Covers (members_of chunks) s ⊎ (lo ≤ s))
  pub joins : (s : ℕ) → at ≤ s → s < lo → Covers (members_of chunks) s
  pub apart : All (λ e. is_span e ≡ true → hi_of e + 1 ≡ at → lo_or block at ≤ hi_of e) chunks

-- the same for the end of the span
pub record IsUpperSide (chunks : List Chunk) (hi : ℕ) (block : Option Chunk) (at : ℕ) : Type 0 where
  pub upto : hi ≤ hi_or block at
  pub reach : 64 * ((hi + 1) / 64) ≤ at + 1
  pub shared : IfSome block (λ w. (at + 1 ≡ lo_of w) × (is_span w ≡ false) × IsTight w)
  pub cut : All (λ e. (hi_of e ≤ hi_or block at) ⊎ (hi_or block at < lo_of e)) chunks
  pub has : (s : ℕ) → at < s → s ≤ hi_or block at
      → Has block s ↔ (Covers (members_of chunks) s ⊎ (s ≤ hi))
  pub joins : (s : ℕ) → hi < s → s ≤ at → Covers (members_of chunks) s
  pub apart : All (λ e. is_span e ≡ true → at + 1 ≡ lo_of e → lo_of e ≤ hi_or block at) chunks
