-- The list is read, or refused.
use Rattle.krl_runs.proofs.Common.{Err, known_of, Ok}
use Rattle.krl_runs.proofs.QueryRuns.{held, refused_run}
use Rattle.krl_runs.proofs.query.ask_stored.Goals as goal

pub returns-in-Ok : goal.returns-in-Ok
returns-in-Ok g c =
    let read = rw c.in-Ok.is at c.read_krl-read.ensures in (
      Ok (known_of c.in-Ok.header c.in-Ok.list),
      record {
        failure = read.failure;
        read = λ text e. held text _ c.in-Ok.list (read.found text e) (read.no_fault text e);
      },
      c.print_list.ensures,
    )

pub returns-in-Err : goal.returns-in-Err
returns-in-Err g c =
    let read = rw c.in-Err.is at c.read_krl-read.ensures in (
      Err c.in-Err.fault,
      record { failure = read.failure; read = read.fault },
      rw (c.whole.ensures, c.cause_of.ensures) (refused_run c.args.krl_name.now c.args.files.now c.in-Err.fault _),
    )
