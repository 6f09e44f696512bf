-- A run that ends before the number is skipped.
use Rattle.list_diff.proofs.Common.{◌+◌, drop, get_or, Span}
use Rattle.list_diff.proofs.Searches.{follows_later, follows_skip, run_at}
use Rattle.list_diff.proofs.window.count_ending_before.Goals as goal

abbrev none : Span
none = record { lo = 0; hi = 0 }

pub loop-at-init : goal.loop-at-init
loop-at-init c = λ spans n le f. follows_later spans (drop c.args.begin c.args.runs.now) n c.args.number le f

pub loop-at-preserved : goal.loop-at-preserved
loop-at-preserved c = λ spans n le f.
    let runs = c.args.runs.now in
    let at = c.loop-at.at in
    follows_skip spans (drop at runs) (drop (at + 1) runs) (get_or runs at none) c.args.number c.args.number (run_at runs at none c.loop-at-test.true) c.if-number-runs.false (c.loop-at.invariant spans n le f)
