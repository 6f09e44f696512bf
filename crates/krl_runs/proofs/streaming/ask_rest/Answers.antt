-- The new walk has read the same fields of the list, or an allocation failed.
use Rattle.krl_runs.proofs.QueryRuns.{ran_out_run}
use Rattle.krl_runs.proofs.streaming.ask_rest.Goals as goal

pub returns-in-Ok-continue_over : goal.returns-in-Ok-continue_over
returns-in-Ok-continue_over g c = λ before begun.
    c.stream.ensures before (λ text e. let h = begun text e in (h.0, c.in-Ok-continue_over.ensures.reads text h.0 h.1))

pub returns-in-Ok : goal.returns-in-Ok
returns-in-Ok g c = λ before begun.
    let refused = c.in-Err-continue_over.ensures in
    rw c.whole.ensures (ran_out_run c.args.krl_name.now c.args.files.now before _ _ _ (refused.failed c.requires.working)
    (λ text e. let h = begun text e in refused.refused text h.0 h.1))

pub returns-in-Ok-continue_over-2 : goal.returns-in-Ok-continue_over-2
returns-in-Ok-continue_over-2 g c = λ before begun.
    c.stream_unasked.ensures c.args.files.now before (λ text e. let h = begun text e in (h.0, c.in-Ok-continue_over-2.ensures.reads text h.0 h.1))

pub returns : goal.returns
returns g c = λ before begun.
    let refused = c.in-Err-continue_over-2.ensures in
    rw c.whole-in-Err-continue_over-2.ensures (ran_out_run c.args.krl_name.now c.args.files.now before _ _ _ (refused.failed c.requires.working)
    (λ text e. let h = begun text e in refused.refused text h.0 h.1))
