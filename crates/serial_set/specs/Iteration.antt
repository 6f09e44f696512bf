-- An iteration over runs: what is left of them from a number on, and where it continues after a
-- piece.
use Rattle.std.specs.Prelude.{◌≡◌, ℕ, ◌+◌, ◌-◌, ◌^◌, ◌<◌, max, Bool, true, false, nat_le, List, []}
use Rattle.std.specs.Prelude.{◌∷◌, length, take, Option, Some, None}
use Rattle.serial_set.specs.declared.span.Span.{Span}
use Rattle.serial_set.specs.declared.piece.Piece.{Piece}

-- the runs of a piece
abbrev pub piece_of : Piece → List Span
piece_of piece = take piece.count piece.spans

-- a span and those after it, by whether it ends at a number or past it
abbrev pub since_by : Bool → ℕ → Span → List Span → List Span → List Span
since_by true number span spans rest = record { lo = max number span.lo; hi = span.hi } ∷ spans
since_by false number span spans rest = rest

-- the runs of the members from a number on
abbrev pub since : ℕ → List Span → List Span
since number [] = []
since number (span ∷ spans) =
    since_by (nat_le number span.hi) number span spans (since number spans)

-- the first span from a number on
abbrev pub clipped : ℕ → List Span → List Span
clipped number [] = []
clipped number (span ∷ spans) = record { lo = max number span.lo; hi = span.hi } ∷ spans

-- the number after the last span, and 0 if there is none
abbrev pub past : List Span → ℕ
past [] = 0
past (x ∷ []) = x.hi + 1
past (x ∷ y ∷ ys) = past (y ∷ ys)

abbrev pub next_by : Bool → ℕ → Option ℕ
next_by true number = Some number
next_by false number = None

-- where an iteration continues: at the number after the last span, if that can be a serial
abbrev pub next_of : List Span → Option ℕ
next_of [] = None
next_of (x ∷ xs) = next_by (nat_le (past (x ∷ xs)) (2 ^ 64 - 1)) (past (x ∷ xs))

-- what is left for an iteration that continues at a number or has come to its end
abbrev pub left : Option ℕ → List Span → List Span
left None spans = []
left (Some number) spans = since number spans

-- a measure that each step of an iteration makes smaller
abbrev pub steps : Option ℕ → List Span → ℕ
steps None spans = 0
steps (Some number) spans = length (since number spans) + 1

-- what a set returns for the runs from a number on
pub record IsPiece (spans : List Span) (number : ℕ) (piece : List Span) : Type 0 where
  pub some : 0 < length (since number spans) → 0 < length piece
  pub front : piece ≡ take (length piece) (since number spans)
