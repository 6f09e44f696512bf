-- The counts are checked, or there is no memory for counting.
use Rattle.std.proofs.Common.{refl, [], ◌∷◌}
use Rattle.run_output.specs.Run.{Passed}
use Rattle.run_output.proofs.RunParts.{carries_more, carries_passed, carries_then, carries_withheld}
use Rattle.list_conditions.proofs.checker.Checker.check_counts.Goals as goal

pub returns-in-Ok-clause-carries : goal.returns-in-Ok-clause-carries
returns-in-Ok-clause-carries g c =
    carries_then (Passed c.args.name.now ∷ []) _ (tt {0}) _ _ _ _ (carries_passed (tt {0}) c.args.name.now _) (rw c.in-Ok.ensures at c.check.ensures.carries)

pub returns-in-Err-clause-carries : goal.returns-in-Err-clause-carries
returns-in-Err-clause-carries g c =
    carries_more {A = Unit {0}} {B = Unit {0}} (Passed c.args.name.now ∷ []) _ _ _ _ (carries_withheld {A = Unit {0}} (Passed c.args.name.now) _ _ (rw c.whole.ensures refl))
