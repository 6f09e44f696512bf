-- The list is checked, then the files, and then the last line is printed.
use Rattle.std.proofs.Common.{[], ◌∙◌, ap}
use Rattle.std.proofs.lemmas.Result.{err_from_is_err_and}
use Rattle.any_list.proofs.Telling.{told_none}
use Rattle.krl_entries.specs.Revocations.{Means}
use Rattle.audit_text.specs.declared.format.Format.{Format}
use Rattle.krl_audit.specs.declared.judge.Judge.{Judge}
use Rattle.check_run.proofs.Judging.{ListLaws, all_checked, files_stop, list_stops}
use Rattle.check_run.proofs.checking.check_all.Goals as goal

abbrev form_in : Judge → Format
form_in judge = judge.shown.format

pub returns-in_err-check_list-clause-all : goal.returns-in_err-check_list-clause-all
returns-in_err-check_list-clause-all g c =
    let p = err_from_is_err_and c.from_residual.result c.from_residual.ensures.1 in
    let given = c.args.job.given.now in
    let held = c.args.checker.now.auditor.judge.list.now in
    let read = c.requires.read in
    let means : Means held read.entries = rw c.requires.judge read.means in
    let law : ListLaws held read.entries = record { nobody = c.nobody_is_named.ensures held read.entries means; authorities = c.authorities_are_counted.ensures held read.entries means } in
    let list = rw c.requires.refused at c.in_err-check_list.ensures.checks in
    rw (p.1, p.2) (record {
      told = [];
      after_is = told_none _;
      are = list_stops c.args.checker.now.auditor.judge.shown.format given.list.name.now given.bytes given.list held c.args.job.task.now c.args.limits c.in_err-check_list.field-0.0 _ _ _ _ _ c.requires.form read law list;
    })

pub returns-in_err-check_list-clause-writer : goal.returns-in_err-check_list-clause-writer
returns-in_err-check_list-clause-writer g c = c.in_err-check_list.ensures.checks.checks.carries.writer

pub returns-in_err-check_files-clause-all : goal.returns-in_err-check_files-clause-all
returns-in_err-check_files-clause-all g c =
    let p = err_from_is_err_and c.from_residual-in_err-check_files.result c.from_residual-in_err-check_files.ensures.1 in
    let given = c.args.job.given.now in
    let held = c.args.checker.now.auditor.judge.list.now in
    let read = c.requires.read in
    let means : Means held read.entries = rw c.requires.judge read.means in
    let law : ListLaws held read.entries = record { nobody = c.nobody_is_named.ensures held read.entries means; authorities = c.authorities_are_counted.ensures held read.entries means } in
    let list = rw c.requires.refused at c.in_ok-check_list.ensures.checks in
    let all = rw c.in_ok-check_list.ensures.judge at c.in_err-check_files.ensures.checks in
    let files = all.are read.entries (rw c.requires.judge read.means) in
    rw (p.1, p.2) (record {
      told = all.told;
      after_is = all.after_is;
      are =
          files_stop all.told c.args.checker.now.auditor.judge.shown.format given.list.name.now given.bytes given.list held c.args.job.task.now c.args.limits (tt {0}) c.in_err-check_files.field-0.0 _ _ _ _ _ _ _ _ _ c.requires.form read law list files;
    })

pub returns-in_err-check_files-clause-writer : goal.returns-in_err-check_files-clause-writer
returns-in_err-check_files-clause-writer g c =
    let read = c.requires.read in
    let all = rw c.in_ok-check_list.ensures.judge at c.in_err-check_files.ensures.checks in
    let files = all.are read.entries (rw c.requires.judge read.means) in
    files.checks.carries.writer ∙ c.in_ok-check_list.ensures.checks.checks.carries.writer

pub returns-clause-all : goal.returns-clause-all
returns-clause-all g c =
    let given = c.args.job.given.now in
    let held = c.args.checker.now.auditor.judge.list.now in
    let read = c.requires.read in
    let means : Means held read.entries = rw c.requires.judge read.means in
    let law : ListLaws held read.entries = record { nobody = c.nobody_is_named.ensures held read.entries means; authorities = c.authorities_are_counted.ensures held read.entries means } in
    let list = rw c.requires.refused at c.in_ok-check_list.ensures.checks in
    let all = rw c.in_ok-check_list.ensures.judge at c.in_ok-check_files.ensures.checks in
    let files = all.are read.entries (rw c.requires.judge read.means) in
    let form = c.in_ok-check_files.ensures.form ∙ ap form_in c.in_ok-check_list.ensures.judge in
    let last = rw form at c.say_end.ensures.carries in
    record {
      told = all.told;
      after_is = all.after_is;
      are =
          all_checked all.told c.args.checker.now.auditor.judge.shown.format given.list.name.now given.bytes given.list held c.args.job.task.now c.args.limits (tt {0}) (tt {0}) c.say_end.result _ _ _ _ _ _ _ _ _ _ c.requires.form read law list files
          (c.in_ok-check_list.ensures.unread ∙ c.requires.unread) last c.say_end.ensures.refused c.say_end.ensures.unread;
    }

pub returns-clause-writer : goal.returns-clause-writer
returns-clause-writer g c =
    let read = c.requires.read in
    let all = rw c.in_ok-check_list.ensures.judge at c.in_ok-check_files.ensures.checks in
    let files = all.are read.entries (rw c.requires.judge read.means) in
    c.say_end.ensures.carries.writer ∙ files.checks.carries.writer ∙ c.in_ok-check_list.ensures.checks.checks.carries.writer
