-- The lost entries are printed, and then their number; or the check is stopped.
use Rattle.std.proofs.Common.{rules}
use Rattle.std.proofs.lemmas.Result.{err_from_is_err_and}
use Rattle.run_output.proofs.RunParts.{carries_more, carries_then}
use Rattle.list_text.specs.Facts.{facts_of}
use Rattle.show_run.specs.Showing.{fact_items}
use Rattle.check_run.specs.Losses.{lost_form}
use Rattle.check_run.proofs.Steps.{on_ok}
use Rattle.check_run.proofs.conditions.say_lost.Goals as goal

pub returns-in_err-show_held : goal.returns-in_err-show_held
returns-in_err-show_held g c =
    let p = err_from_is_err_and c.from_residual.result c.from_residual.ensures.1 in
    let lines = fact_items (lost_form c.args.checker.now.auditor.judge.shown.format c.args.lost.now.names) (facts_of c.args.lost.now.held) in
    record {
      checks = rw (p.1, p.2) (record { carries = carries_more {A = Unit {0}} {B = Unit {0}} lines _ _ _ _ (rw c.lost_form-form.ensures at c.in_err-show_held.ensures.carries); refused = tt });
      unread = search rules;
      judge = search rules;
    }

pub returns : goal.returns
returns g c =
    let lines = fact_items (lost_form c.args.checker.now.auditor.judge.shown.format c.args.lost.now.names) (facts_of c.args.lost.now.held) in
    let last = rw c.in_ok-show_held.ensures.count at c.check.ensures.carries in
    record {
      checks = record {
        carries = carries_then lines _ tt _ _ _ _ (rw c.lost_form-form.ensures at c.in_ok-show_held.ensures.carries) last;
        refused = on_ok c.check.result _ _ c.check.ensures.refused;
      };
      unread = search rules;
      judge = search rules;
    }
