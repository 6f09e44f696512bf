use Rattle.krl_plan.proofs.Common.{◌++◌, ◌+◌, ◌-◌, ◌<◌, ◌∙◌, ◌∷◌, ◌≡◌, ap, arith, drop}
use Rattle.krl_plan.proofs.Common.{drop-append-le, drop_more, get_or, IsRuns, Knows, length, List}
use Rattle.krl_plan.proofs.Common.{Span, subst, sym, ℕ}
use Rattle.krl_plan.proofs.ChosenGroups.{IsRuns-drop}
use Rattle.krl_plan.proofs.ZeroSpan.{zero_span}
use Rattle.krl_plan.proofs.table.Table.add_all.Goals as goal

-- the runs from one on, followed by the known ones
from_on : (more runs : List Span) (i : ℕ) → 0 < i → i - 1 < length more → drop (i - 1) more ++ runs ≡ get_or more (i - 1) zero_span ∷ (drop i more ++ runs)
from_on more runs i some lt =
    let one : (i - 1) + 1 ≡ i = omega arith in
    ap (λ (l : List Span). l ++ runs) (drop_more more (i - 1) zero_span lt ∙ ap (λ (n : ℕ). get_or more (i - 1) zero_span ∷ drop n more) one)

rises : (more runs : List Span) (i : ℕ) → 0 < i → i - 1 < length more → IsRuns (more ++ runs) → IsRuns (get_or more (i - 1) zero_span ∷ (drop i more ++ runs))
rises more runs i some lt r =
    subst IsRuns (drop-append-le (i - 1) more runs (omega arith) ∙ from_on more runs i some lt) (IsRuns-drop 0 (i - 1) (more ++ runs) r)

pub add-requires : goal.add-requires
add-requires c =
    let more = c.args.more.now in
    let runs = c.requires.0 in
    (drop c.loop-i.i more ++ runs, (rises more runs c.loop-i.i (omega arith) (omega arith) c.requires.1.0, c.loop-i.invariant runs c.requires.1.0 c.requires.1.1))

pub loop-i-preserved : goal.loop-i-preserved
loop-i-preserved c runs r knows =
    let more = c.args.more.now in
    let i = c.loop-i.i in
    subst (Knows c.add.new.self) (sym (from_on more runs i (omega arith) (omega arith)))
    (c.in_ok-add.ensures (drop i more ++ runs) (rises more runs i (omega arith) (omega arith) r) (c.loop-i.invariant runs r knows))
