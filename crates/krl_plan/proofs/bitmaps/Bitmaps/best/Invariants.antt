use Rattle.krl_plan.proofs.Common.{◌<◌, ◌∷◌, Bitmap, HasBitmaps, IsBestOf, IsBitmapOf, IsCell}
use Rattle.krl_plan.proofs.Common.{IsRuns, List, Span, ℕ}
use Rattle.krl_plan.proofs.bitmaps.Bitmaps.best.Given as goal

abbrev pub invariant-loop-remainder : goal.invariant-loop-remainder
invariant-loop-remainder l =
    (runs : List Span) (rests : List ℕ) → IsRuns (l.run ∷ runs) → HasBitmaps l.self l.at (l.run ∷ runs) rests → IsCell rests (l.run ∷ runs) l.initial.best
    → IsBestOf rests (l.run ∷ runs) Bitmap (λ count. (r : ℕ) × ((r < l.remainder) × IsBitmapOf (l.run ∷ runs) r count)) l.initial.best l.best
