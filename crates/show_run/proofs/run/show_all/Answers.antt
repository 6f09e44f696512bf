-- The waiting text is sent, and the end of the run is reported.
use Rattle.std.proofs.Common.{rules}
use Rattle.run_output.proofs.RunEnds.{ends_known}
use Rattle.show_run.proofs.Ending.{plain_run}
use Rattle.show_run.proofs.run.show_all.Goals as goal

pub returns : goal.returns
returns g c =
    let carries = rw (c.new-printer.ensures, c.requires) at c.show_each-stop.ensures in
    record {
      plain = plain_run c.args.form c.args.lists.now;
      ends = ends_known _ c.show_each-stop.result _ _ _ _ _ _ _ _ _ _ carries c.err.ensures.value c.finish-done.ensures.ends (search rules) (search rules);
    }
