-- The other list has names that this one lacks, or none.
use Rattle.std.proofs.Common.{◌∙◌, rules, sym}
use Rattle.check_run.proofs.Losing.{nothing_lost, some_lost}
use Rattle.check_run.proofs.Steps.{checks_of}
use Rattle.check_run.proofs.conditions.check_lost.Goals as goal

pub returns-then-names_nobody : goal.returns-then-names_nobody
returns-then-names_nobody g c =
    let checks = checks_of _ _ _ _ _ _ _ c.check.ensures.carries c.check.ensures.refused in
    record {
      checks = rw c.in-Some.is (nothing_lost _ c.args.name.now c.in-Some.lost _ _ _ _ _ (sym c.names_nobody.ensures ∙ c.if-names_nobody.true) checks);
      unread = search rules;
      judge = search rules;
    }

pub returns : goal.returns
returns g c =
    record {
      checks = rw c.in-Some.is (some_lost _ c.args.name.now c.in-Some.lost _ _ _ _ _ (sym c.names_nobody.ensures ∙ c.if-names_nobody.false) c.say_lost.ensures.checks);
      unread = search rules;
      judge = search rules;
    }
