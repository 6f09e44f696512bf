-- The runs of a plan take at least 17 bytes for every 64 of them, as in a bitmap of every other
-- serial.
use Rattle.krl_plan.proofs.Common.{[], ◌*◌, ◌+◌, ◌∷◌, ◌≤◌, Allows, arith, Bitmap, bytes_of, cost}
use Rattle.krl_plan.proofs.Common.{drop, end_of, Group, IsPlan, IsRuns, length, length-drop}
use Rattle.krl_plan.proofs.Common.{length-take-le, List, Range, reach, RunsFrom, serial_count}
use Rattle.krl_plan.proofs.Common.{Serials, Sort, Span, suc, take, zero, ℕ}
use Rattle.krl_plan.proofs.ChosenGroups.{IsRuns-drop}

-- each run after the first ends at least two numbers past the one before
end_far : (run : Span) (runs : List Span) → RunsFrom (run.hi + 2) runs → run.hi + 2 * length runs ≤ end_of run runs
end_far run [] r = omega arith
end_far run (next ∷ runs) r = omega (arith, end_far next runs r.2, r.0, r.1)

reach_far : (least : ℕ) (runs : List Span) → RunsFrom least runs → 2 * length runs ≤ reach runs + 2
reach_far least [] r = omega arith
reach_far least (run ∷ runs) r = omega (arith, end_far run runs r.2, r.1)

counted : (least : ℕ) (runs : List Span) → RunsFrom least runs → length runs ≤ serial_count runs
counted least [] r = omega arith
counted least (run ∷ runs) r = omega (arith, counted (run.hi + 2) runs r.2, r.1)

RunsFrom-take : (least n : ℕ) (runs : List Span) → RunsFrom least runs → RunsFrom least (take n runs)
RunsFrom-take least zero runs r = tt
RunsFrom-take least (suc n) [] r = tt
RunsFrom-take least (suc n) (run ∷ runs) r = (r.0, r.1, RunsFrom-take (run.hi + 2) n runs r.2)

subsection_least : (sort : Sort) (runs : List Span) → IsRuns runs → Allows sort runs → 17 * length runs ≤ 64 * bytes_of sort runs
subsection_least Serials runs r allowed = omega (arith, counted 0 runs r)
subsection_least Range runs r allowed = omega (arith, allowed)
subsection_least Bitmap runs r allowed = omega (arith, reach_far 0 runs r, allowed)

pub plan_least : (runs : List Span) (plan : List Group) → IsRuns runs → IsPlan runs plan → 17 * length runs ≤ 64 * cost runs plan
plan_least runs [] r p = omega (arith, p)
plan_least runs (group ∷ groups) r p =
    let here = subsection_least group.sort (take group.count runs) (RunsFrom-take 0 group.count runs r) p.0.allowed in
    let rest = plan_least (drop group.count runs) groups (IsRuns-drop 0 group.count runs r) p.1 in
    omega (arith, here, rest, p.0.within, length-take-le group.count runs p.0.within, length-drop group.count runs)
