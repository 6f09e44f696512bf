use Rattle.krl_plan.proofs.Common.{◌%◌, ◌+◌, ◌∷◌, ◌≡◌, arith, Bitmap, cases_lt, cell_with, inl, inr}
use Rattle.krl_plan.proofs.Common.{last_of, refl, take}
use Rattle.krl_plan.proofs.BestCandidates.{group_of}
use Rattle.krl_plan.proofs.bitmaps.Bitmaps.best.Goals as goal

pub loop-remainder-init : goal.loop-remainder-init
loop-remainder-init c runs rests rises mapped is_cell = record {
  is_cell = is_cell;
  kept = λ other w. w;
  beats = λ count is. let lt = is.1.0 in absurd (omega arith);
}

pub loop-remainder-preserved : goal.loop-remainder-preserved
loop-remainder-preserved c runs rests rises mapped is_cell =
    let run = c.args.run in
    let before = c.loop-remainder.invariant runs rests rises mapped is_cell in
    let one = c.best_of-best.ensures runs rests rises mapped before.is_cell in
    record {
      is_cell = one.is_cell;
      kept = λ other w. one.kept other (before.kept other w);
      beats = λ count is. elim (cases_lt is.0 c.loop-remainder.remainder) [
        | inl lt ↦ one.kept (cell_with rests (run ∷ runs) (group_of Bitmap count)) (before.beats count (is.0, (lt, is.1.1)))
        | inr ge ↦
            let lt = is.1.0 in
            let here : is.0 ≡ c.loop-remainder.remainder = omega arith in
            one.beats count (rw here at is.1.1)
      ];
    }

pub returns : goal.returns
returns c runs rests rises mapped is_cell =
    let run = c.args.run in
    let all = c.loop-remainder.invariant runs rests rises mapped is_cell in
    record {
      is_cell = all.is_cell;
      kept = all.kept;
      beats = λ count is. all.beats count ((last_of (take count (run ∷ runs)) + 1) % 8, (omega arith, record { is_bitmap = is; leaves = refl }));
    }
