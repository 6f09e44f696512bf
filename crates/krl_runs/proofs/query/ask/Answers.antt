-- The run prints the contents, or only the answers.
use Rattle.krl_runs.proofs.Common.{asked, asked_run_of, dumped, query_run_of, refl}
use Rattle.krl_runs.proofs.query.ask.Goals as goal

pub returns-then-dump : goal.returns-then-dump
returns-then-dump g c =
    let run = c.ask_stored.ensures in
    (query_run_of c.args.krl_name.now run.0 c.args.files.now, dumped run.0 c.if-dump.true run.1 refl, run.2)

pub returns : goal.returns
returns g c =
    let run = c.ask_streamed.ensures in
    (asked_run_of c.args.krl_name.now run.0 c.args.files.now, asked run.0 c.if-dump.false run.1 refl, run.2)
