-- The files to be kept are checked, and then the canaries.
use Rattle.std.proofs.lemmas.Result.{err_from_is_err_and}
use Rattle.any_list.proofs.Telling.{told_then}
use Rattle.krl_entries.specs.Reasons.{reasons_of}
use Rattle.list_conditions.specs.declared.role.Role.TheVariants.{Canary, Keep}
use Rattle.check_run.specs.Files.{named_all}
use Rattle.check_run.proofs.KeyFiles.{files_stop, files_then}
use Rattle.check_run.proofs.files.check_files.Goals as goal

pub returns-in_err-check_each-clause-checks : goal.returns-in_err-check_each-clause-checks
returns-in_err-check_each-clause-checks g c =
    let form = c.args.checker.now.auditor.judge.shown.format in
    let p = err_from_is_err_and c.from_residual.result c.from_residual.ensures.1 in
    let kept = rw c.as_slice.ensures.value at c.in_err-check_each.ensures.checks in
    rw (p.1, p.2) (record {
      told = kept.told;
      after_is = kept.after_is;
      are = λ entries means. files_stop kept.told form (reasons_of entries) (named_all Keep c.args.task.now.keep.items) (named_all Canary c.args.task.now.canary.items) c.in_err-check_each.field-0.0 _ _ _ _ _ _ _ _ (kept.are entries means);
    })

pub returns-clause-checks : goal.returns-clause-checks
returns-clause-checks g c =
    let form = c.args.checker.now.auditor.judge.shown.format in
    let first = rw c.as_slice.ensures.value at c.in_ok-check_each.ensures.checks in
    let second = rw (c.in_ok-check_each.ensures.list, c.in_ok-check_each.ensures.form, c.as_slice-2.ensures.value) at c.check_each-2.ensures.checks in
    record {
      told = _;
      after_is = told_then _ _ _ first.told second.told first.after_is second.after_is;
      are = λ entries means.
          files_then first.told second.told form (reasons_of entries) (named_all Keep c.args.task.now.keep.items) (named_all Canary c.args.task.now.canary.items) (tt {0}) _ _ _ _ _ _ _ _ _ _ (first.are entries means) (second.are entries means);
    }
