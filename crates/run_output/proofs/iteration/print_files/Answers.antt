-- Each file continues the run, or stops it.
use Rattle.std.proofs.lemmas.Result.{err_from_is_err_and}
use Rattle.run_output.proofs.AnsweredFiles.{none_answered, file_carried, file_stops}
use Rattle.run_output.proofs.iteration.print_files.Goals as goal

pub loop-file-init : goal.loop-file-init
loop-file-init g c = λ answering _. none_answered answering _

pub returns-in_err-print_file : goal.returns-in_err-print_file
returns-in_err-print_file g c =
    let p = err_from_is_err_and c.from_residual.result c.from_residual.ensures.1 in
    rw (p.1, p.2) (λ answering is. file_stops answering c.args.files.now c.loop-file.file-index c.file-item.result _ _ _ _ c.loop-file-test.true c.file-item.is (c.loop-file.invariant answering is) (c.in_err-print_file.ensures answering is))

pub loop-file-preserved : goal.loop-file-preserved
loop-file-preserved g c =
    λ answering is. file_carried answering c.args.files.now c.loop-file.file-index c.file-item.result _ _ _ c.loop-file-test.true c.file-item.is (c.loop-file.invariant answering is) (c.in_ok-print_file.ensures answering is)

pub print_file-requires : goal.print_file-requires
print_file-requires g c = rw c.file-item.is (c.requires c.loop-file.file-index c.file-item.result c.loop-file-test.true)
