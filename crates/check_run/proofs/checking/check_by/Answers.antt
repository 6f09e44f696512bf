-- The waiting text is sent, and the end of the check is reported.
use Rattle.std.proofs.Common.{rules}
use Rattle.run_output.proofs.RunParts.{begun}
use Rattle.check_run.proofs.Ending.{ended, ended_there}
use Rattle.check_run.proofs.checking.check_by.Goals as goal

pub returns : goal.returns
returns g c =
    let told = c.check_all-stop.ensures.all in
    let given = c.args.job.given.now in
    let taken = g.W.Sink.taken c.args.out.now in
    let ends = rw c.err.ensures.value at c.finish-done.ensures.ends in
    let all = ended told.told given.list.name.now given.bytes c.args.job.task.now c.args.limits c.check_all-stop.result _ _ taken _ _ _ _ _ _ told.are (rw (c.new-checker.ensures.printer, c.new-printer.ensures, c.requires.working) (begun taken _)) ends in
    record {
      told = told.told;
      after_is = told.after_is;
      are = ended_there told.told given.list.name.now given.bytes c.args.job.task.now c.args.limits taken _ _ _ _ _ _ all (search rules) (search rules);
    }
