-- The first difference of a key revocation list is checked, or the lines of a plain list are.
use Rattle.check_run.proofs.Formats.{differs, has_lines}
use Rattle.check_run.proofs.Steps.{checks_of}
use Rattle.check_run.proofs.conditions.check_format.Goals as goal

pub returns-in-Some-clause-checks : goal.returns-in-Some-clause-checks
returns-in-Some-clause-checks g c =
    let given = c.args.given.now in
    record {
      format = _;
      is = differs given.list.name.now given.bytes given.list _ _ c.requires c.in-Some.is (rw c.as_slice.ensures at c.first_difference-difference.ensures);
      checks = checks_of _ _ _ _ _ _ _ c.check.ensures.carries c.check.ensures.refused;
    }

pub returns-in-None-clause-checks : goal.returns-in-None-clause-checks
returns-in-None-clause-checks g c =
    let given = c.args.given.now in
    let lines = rw c.as_slice-in-None.ensures at c.check_lines.ensures.checks in
    record {
      format = _;
      is = has_lines given.list.name.now given.bytes given.list lines.line c.requires c.in-None.is lines.is_first;
      checks = lines.checks;
    }
