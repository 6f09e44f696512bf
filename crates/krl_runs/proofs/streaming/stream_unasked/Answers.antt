-- The list is refused, or an allocation failed first.
use Rattle.std.proofs.Common.{Ok, Err}
use Rattle.krl_runs.proofs.QueryRuns.{asked_refused, asked_ran_out, list_entries}
use Rattle.krl_runs.proofs.streaming.stream_unasked.Goals.{in-Ok, in-Err}
use Rattle.krl_runs.proofs.streaming.stream_unasked.Goals as goal

pub returns : goal.returns
returns g c =
    elim c.match-read.branch [
      | in-Ok w ↦ (λ files before begun.
          let read = rw w.in-Ok.is at c.read_on-read.ensures in
          let passed = list_entries {Agrees = λ _. Unit {0}} before w.in-Ok.field-0.1.found
          (λ text e. let h = begun text e in let list = read.found text h.0 h.1 in (list.0, list.2)) (λ text e. let h = begun text e in read.no_fault text h.0 h.1) tt (λ text entries holds. tt) in (
            Ok passed.0,
            record { failure = read.failure; read = passed.1 },
            rw (c.whole.ensures, w.cause-is) (asked_ran_out c.args.krl_name.now files passed.0 c.args.run.now.printer),
          )
          )
      | in-Err w ↦ (λ files before begun.
          let read = rw w.in-Err.is at c.read_on-read.ensures in (
            Err w.in-Err.fault,
            record { failure = read.failure; read = λ text e. let h = begun text e in read.fault text h.0 h.1 },
            rw (c.whole.ensures, w.cause-is, w.cause_of-cause.ensures) (asked_refused c.args.krl_name.now files w.in-Err.fault c.args.run.now.printer),
          )
          )
    ]
