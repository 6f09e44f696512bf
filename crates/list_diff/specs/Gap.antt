-- Numbers of a span that other spans do not cover, and the first gap between those that do.
use Rattle.std.specs.Prelude.{ℕ, ◌<◌, ◌≤◌, ◌⊎◌, ◌↔◌, List, Option, Some, None, IfSome}
use Rattle.serial_set.specs.declared.span.Span.{Span}
use Rattle.serial_set.specs.Span.{Covers}
use Rattle.list_diff.specs.declared.gap.Gap.{Gap}

-- a number from the first to the last one that other spans do not cover
abbrev pub LostBetween : (first last : ℕ) → (others : List Span) → ℕ → Type 0
LostBetween first last others s = ((first ≤ s) × (s ≤ last)) × (Covers others s → ⊥)

-- a number from the first to the last one; if there is no last one, there is none
abbrev pub IsUpTo : (first : ℕ) → Option ℕ → ℕ → Type 0
IsUpTo first None s = ⊥
IsUpTo first (Some last) s = (first ≤ s) × (s ≤ last)

-- one from where the search continues that other spans do not cover
abbrev pub LostFrom : Option ℕ → (last : ℕ) → (others : List Span) → ℕ → Type 0
LostFrom None last others s = ⊥
LostFrom (Some first) last others s = LostBetween first last others s

-- The gap and the numbers after it are those that other spans do not cover. The numbers after it
-- begin past the first one.
pub record IsGap (first last : ℕ) (others : List Span) (gap : Gap) : Type 0 where
  pub parts : (s : ℕ) → LostBetween first last others s
      ↔ (IsUpTo first gap.last s ⊎ LostFrom gap.next last others s)
  pub some : IfSome gap.last (λ end. first ≤ end)
  pub rises : IfSome gap.next (λ next. (first < next) × (next ≤ last))
