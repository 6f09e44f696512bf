-- Each file is added, or stops the run.
use Rattle.std.proofs.lemmas.Result.{err_from_is_err_and}
use Rattle.krl_make.proofs.MadeLists.{file_added, file_stops, no_files}
use Rattle.krl_make.proofs.files.add_files.Goals as goal

pub loop-file-init : goal.loop-file-init
loop-file-init g c = no_files _

pub returns-in_err-add_file : goal.returns-in_err-add_file
returns-in_err-add_file g c =
    let p = err_from_is_err_and c.from_residual.result c.from_residual.ensures.1 in
    rw (p.1, p.2) (file_stops _ c.args.files.now c.loop-file.file-index c.file-item.result _ _ _ c.loop-file-test.true c.file-item.is c.loop-file.invariant c.in_err-add_file.ensures)

pub loop-file-preserved : goal.loop-file-preserved
loop-file-preserved g c =
    file_added _ c.args.files.now c.loop-file.file-index c.file-item.result _ _ _ c.loop-file-test.true c.file-item.is c.loop-file.invariant c.in_ok-add_file.ensures
