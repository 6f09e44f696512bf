-- The waiting text is sent, and the end of the run is reported.
use Rattle.std.proofs.Common.{rules}
use Rattle.run_output.proofs.RunEnds.{ends_known}
use Rattle.show_run.proofs.comparison.print_changes.Goals as goal

pub returns : goal.returns
returns g c =
    let carries = rw (c.new-printer.ensures, c.requires) at c.print_each-stop.ensures in
    record {
      same = c.is_none.result;
      same_is = c.is_none.ensures;
      ends = (ends_known _ c.print_each-stop.result _ _ _ _ _ _ _ _ _ _ carries c.err.ensures.value c.finish-done.ensures.ends (search rules) (search rules)).0;
      status_is = c.status_of-status.ensures;
    }
