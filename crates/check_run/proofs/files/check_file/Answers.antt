-- The content of the file is checked, or there is no memory for it.
use Rattle.std.proofs.Common.{[], ◌∙◌}
use Rattle.any_list.proofs.Telling.{told_none}
use Rattle.krl_entries.specs.Reasons.{reasons_of}
use Rattle.check_run.proofs.KeyFiles.{file_checked, file_not_reached}
use Rattle.check_run.proofs.files.check_file.Goals as goal

pub returns-in-Ok-Ok-clause-checks : goal.returns-in-Ok-Ok-clause-checks
returns-in-Ok-Ok-clause-checks g c = record {
  told = _;
  after_is = rw c.in-Ok-Ok.field-0-is at c.in-Ok-Ok.ensures.read;
  are = λ entries means.
      let form = c.args.checker.now.auditor.judge.shown.format in
      file_checked form (reasons_of entries) c.args.role c.args.name.now _ c.check_keys.result _ _ _ _ _ _ (rw c.as_slice.ensures.value at (c.check_keys.ensures.checks entries means)) c.check_keys.ensures.unread;
}

pub returns-in-Ok-Err-clause-checks : goal.returns-in-Ok-Err-clause-checks
returns-in-Ok-Err-clause-checks g c = record {
  told = _;
  after_is = rw c.in-Ok-Err.field-0-is at c.in-Ok-Err.ensures.read;
  are = λ entries means.
      let form = c.args.checker.now.auditor.judge.shown.format in
      file_checked form (reasons_of entries) c.args.role c.args.name.now _ c.check_keys-in-Ok-Err.result _ _ _ _ _ _ (c.check_keys-in-Ok-Err.ensures.checks entries means) c.check_keys-in-Ok-Err.ensures.unread;
}

pub returns-clause-checks : goal.returns-clause-checks
returns-clause-checks g c = record {
  told = [];
  after_is = c.in-Err.ensures.failed ∙ told_none _;
  are = λ entries means.
      let form = c.args.checker.now.auditor.judge.shown.format in
      rw c.whole.ensures (file_not_reached form (reasons_of entries) c.args.role c.args.name.now _ _ _ _ _);
}
