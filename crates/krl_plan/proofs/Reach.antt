-- How far runs reach, by their indexes.
use Rattle.krl_plan.proofs.Common.{[], ◌+◌, ◌-◌, ◌<◌, ◌∷◌, ◌≡◌, ◌≤◌, add-one, ap, arith, end_of}
use Rattle.krl_plan.proofs.Common.{get_or, IsRuns, length, List, reach, refl, runs_at, Span, suc}
use Rattle.krl_plan.proofs.Common.{take, zero, ℕ}

end_take : (run : Span) (runs : List Span) (i : ℕ) (d : Span) → i ≤ length runs
    → end_of run (take i runs) ≡ (get_or (run ∷ runs) i d).hi
end_take run runs zero d le = refl
end_take run [] (suc i) d le = absurd (omega arith)
end_take run (next ∷ runs) (suc i) d le = end_take next runs i d (omega arith)

pub reach-take : (runs : List Span) (i : ℕ) (d : Span) → i < length runs
    → reach (take (i + 1) runs) ≡ (get_or runs i d).hi - (get_or runs 0 d).lo
reach-take [] i d lt = absurd (omega arith)
reach-take (run ∷ runs) i d lt =
    let h = end_take run runs i d (omega arith) in
    rw add-one (ap (λ (n : ℕ). n - run.lo) h)

-- the first run begins below each one's end
pub first_below : (runs : List Span) (i : ℕ) (d : Span) → IsRuns runs → i < length runs
    → (get_or runs 0 d).lo ≤ (get_or runs i d).hi
first_below [] i d r lt = absurd (omega arith)
first_below (run ∷ runs) zero d r lt = r.1
first_below (run ∷ runs) (suc i) d r lt =
    let h = runs_at (run.hi + 2) runs i d r.2 (omega arith) in
    let h1 : run.lo ≤ run.hi = r.1 in
    omega arith
