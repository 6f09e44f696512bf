-- The list was streamed to its end, or was refused.
use Rattle.krl_runs.proofs.Common.{ask_by, Asks, Err, files_size, is_revoked, Ok}
use Rattle.krl_runs.proofs.Bounds.{few_found}
use Rattle.krl_runs.proofs.QueryRuns.{asked_run, asked_refused, entries_answer, streamed_list}
use Rattle.krl_queries.proofs.TopicAmounts.{small_within}
use Rattle.krl_runs.proofs.streaming.stream.Goals as goal

pub returns-in-Ok : goal.returns-in-Ok
returns-in-Ok g c = λ before begun.
    let read = rw c.in-Ok.is at c.read_on-read.ensures in
    let topics = c.in-Ok.questions.topics in
    let found = c.in-Ok.questions.found in
    let answers = streamed_list before topics found c.in-Ok.header c.found-found.ensures.orderly
    (λ text e. let h = begun text e in read.found text h.0 h.1) (λ text e. let h = begun text e in read.no_fault text h.0 h.1) in (
      Ok answers.0,
      record { failure = read.failure; read = answers.1 },
      asked_run c.args.krl_name.now c.args.files.now answers.0 c.print_streamed.result _ _
          (c.print_streamed.ensures (ask_by (is_revoked answers.0)) (entries_answer (Asks topics) found (is_revoked answers.0) answers.2)),
    )

pub returns-in-Err : goal.returns-in-Err
returns-in-Err g c = λ before begun.
    let read = rw c.in-Err.is at c.read_on-read.ensures in (
      Err c.in-Err.fault,
      record { failure = read.failure; read = λ text e. let h = begun text e in read.fault text h.0 h.1 },
      rw (c.whole.ensures, c.cause_of.ensures) (asked_refused c.args.krl_name.now c.args.files.now c.in-Err.fault _),
    )

pub print_streamed-requires-clause-asked : goal.print_streamed-requires-clause-asked
print_streamed-requires-clause-asked g c =
    let read = rw c.in-Ok.is at c.read_on-read.ensures in
    rw (← read.scope) at c.requires.asked

pub print_streamed-requires-clause-few : goal.print_streamed-requires-clause-few
print_streamed-requires-clause-few g c =
    let read = rw c.in-Ok.is at c.read_on-read.ensures in
    let orderly = rw (← read.scope) at c.requires.orderly in
    let within = rw (← read.scope) at c.requires.within in
    few_found (files_size c.args.files.now) c.in-Ok.questions.topics c.in-Ok.questions.found within
    (small_within c.in-Ok.questions.topics c.in-Ok.questions.found orderly read.within.within)
