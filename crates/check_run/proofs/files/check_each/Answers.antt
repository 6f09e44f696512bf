-- Each file continues the check, or stops it.
use Rattle.std.proofs.Common.{refl, ℕ, ◌∙◌, ◌+◌, ◌++◌, ◌∷◌, get_or, take, drop, List, Ok, Err, []}
use Rattle.std.specs.Borrow.{Bor}
use Rattle.std.proofs.lemmas.List.{get_or_default, take_all}
use Rattle.std.proofs.lemmas.Result.{err_from_is_err_and}
use Rattle.any_list.proofs.Telling.{told_none, told_then}
use Rattle.krl_entries.specs.Reasons.{reasons_of}
use Rattle.check_run.specs.Files.{named, named_all}
use Rattle.check_run.proofs.KeyFiles.{files_stop, files_then, named_more, named_none, named_split, no_file}
use Rattle.check_run.proofs.files.check_each.Goals as goal

-- the name where there is no name
abbrev nobody : Bor (List ℕ)
nobody = record { ref_ptr = (0, 0); now = [] }

pub loop-name-init : goal.loop-name-init
loop-name-init g c = record {
  checks = record {
    told = [];
    after_is = told_none _;
    are = λ entries means. rw (named_none c.args.role) (no_file c.args.checker.now.auditor.judge.shown.format (reasons_of entries) _ _ _);
  };
  list = refl;
  form = refl;
}

pub returns-in_err-check_file-clause-checks : goal.returns-in_err-check_file-clause-checks
returns-in_err-check_file-clause-checks g c =
    let p = err_from_is_err_and c.from_residual.result c.from_residual.ensures.1 in
    let told = c.loop-name.invariant.checks in
    let form = c.args.checker.now.auditor.judge.shown.format in
    let role = c.args.role in
    let names = c.args.names.now in
    let i = c.loop-name.name-index in
    let checks = rw (c.loop-name.invariant.list, c.loop-name.invariant.form) at c.in_err-check_file.ensures.checks in
    let name = get_or names i nobody in
    let is = get_or_default names i nobody name c.loop-name-test.true in
    let stop = c.in_err-check_file.field-0.0 in
    rw (p.1, p.2) (record {
      told = told.told ++ checks.told;
      after_is = told_then _ _ _ told.told checks.told told.after_is checks.after_is;
      are = λ entries means.
          let front = files_then told.told checks.told form (reasons_of entries) (named_all role (take i names)) (named role name.now ∷ []) (tt {0}) (Err stop) _ _ _ _ _ _ _ _ _ (told.are entries means) (checks.are entries means) in
          rw (named_split role names (i + 1), named_more role names i name c.loop-name-test.true is)
          (files_stop (told.told ++ checks.told) form (reasons_of entries) (named_all role (take i names) ++ named role name.now ∷ []) (named_all role (drop (i + 1) names)) stop _ _ _ _ _ _ _ _ front);
    })

pub loop-name-preserved : goal.loop-name-preserved
loop-name-preserved g c =
    let told = c.loop-name.invariant.checks in
    let form = c.args.checker.now.auditor.judge.shown.format in
    let role = c.args.role in
    let names = c.args.names.now in
    let i = c.loop-name.name-index in
    let checks = rw (c.loop-name.invariant.list, c.loop-name.invariant.form) at c.in_ok-check_file.ensures.checks in
    let name = get_or names i nobody in
    let is = get_or_default names i nobody name c.loop-name-test.true in
    record {
      checks = record {
        told = told.told ++ checks.told;
        after_is = told_then _ _ _ told.told checks.told told.after_is checks.after_is;
        are = λ entries means.
            rw (named_more role names i name c.loop-name-test.true is)
            (files_then told.told checks.told form (reasons_of entries) (named_all role (take i names)) (named role name.now ∷ []) (tt {0}) (Ok (tt {0})) _ _ _ _ _ _ _ _ _ (told.are entries means) (checks.are entries means));
      };
      list = c.in_ok-check_file.ensures.list ∙ c.loop-name.invariant.list;
      form = c.in_ok-check_file.ensures.form ∙ c.loop-name.invariant.form;
    }

pub returns-clause-checks : goal.returns-clause-checks
returns-clause-checks g c = rw (take_all c.loop-name.name-index c.args.names.now c.loop-name-test.false) at c.loop-name.invariant.checks
