-- The waiting text is sent, and the end of the run is reported.
use Rattle.std.proofs.Common.{rules}
use Rattle.run_output.proofs.RunEnds.{ends_known}
use Rattle.krl_runs.proofs.query.query_run.Goals as goal

pub returns : goal.returns
returns g c =
    let run = c.ask-asked.ensures in
    let carries = rw (c.new-printer.ensures, c.requires.working) at run.2 in
    (run.0, run.1, ends_known _ c.ask-asked.result.0 _ _ _ _ _ _ _ _ _ _ carries c.err.ensures.value c.finish-done.ensures.ends (search rules) (search rules))
