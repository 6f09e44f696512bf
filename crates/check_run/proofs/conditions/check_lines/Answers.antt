-- The lines are checked, or there is no memory to read them.
use Rattle.std.proofs.Common.{refl, [], ◌∷◌}
use Rattle.plain_list.specs.List.{lines_of}
use Rattle.run_output.specs.Run.{Passed}
use Rattle.run_output.proofs.RunParts.{carries_more, carries_passed, carries_then, carries_withheld}
use Rattle.check_run.proofs.Formats.{some_first}
use Rattle.check_run.proofs.Steps.{checks_of}
use Rattle.check_run.proofs.conditions.check_lines.Goals as goal

pub returns-in-Ok-clause-checks : goal.returns-in-Ok-clause-checks
returns-in-Ok-clause-checks g c = record {
  line = _;
  is_first = c.in-Ok.ensures;
  checks = checks_of _ _ _ _ _ _ _ (carries_then (Passed c.args.name.now ∷ []) _ (tt {0}) _ _ _ _ (carries_passed (tt {0}) c.args.name.now _) c.check.ensures.carries) c.check.ensures.refused;
}

pub returns-in-Err-clause-checks : goal.returns-in-Err-clause-checks
returns-in-Err-clause-checks g c =
    let first = some_first (lines_of c.args.bytes.now) in
    record {
      line = first.0;
      is_first = first.1;
      checks = record {
        carries = carries_more {A = Unit {0}} {B = Unit {0}} (Passed c.args.name.now ∷ []) _ _ _ _ (carries_withheld {A = Unit {0}} (Passed c.args.name.now) _ _ (rw c.whole.ensures refl));
        refused = tt;
      };
    }
