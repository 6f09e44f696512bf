-- The first run from the index on, without the numbers before this one.
use Rattle.list_diff.proofs.Common.{arith, drop, Follows, List, max, Option, Some, Span, subst, suc, sym, ◌∙◌, ◌≡◌, ◌≤◌, ap}
use Rattle.list_diff.proofs.Searches.{first_of_runs, run_got}
use Rattle.std.specs.List.{slice_get}
use Rattle.std.specs.Prelude.{IfSome}
use Rattle.list_diff.proofs.window.Window.first_from.Goals as goal

pub returns-clause-first : goal.returns-clause-first
returns-clause-first c = λ spans window.
    let self = c.args.self.now in
    let number = c.args.number in
    let runs = c.as_slice.result.now in
    let at = c.count_ending_before-self.result in
    let run = c.in_ok-first.first in
    let follows = c.count_ending_before-self.ensures.follows spans self.from c.if-number-self.false (subst (λ (l : List Span). Follows spans self.from (drop self.at l)) (sym c.as_slice.ensures.runs) window) in
    let got : slice_get runs at ≡ Some run = ap (λ (l : List Span). slice_get l at) (c.as_slice.ensures.runs ∙ sym c.as_slice-2.ensures.runs) ∙ sym c.in_ok-first.ensures in
    let ends = subst (λ (o : Option Span). IfSome o (λ r. number ≤ r.hi)) got c.count_ending_before-self.ensures.ends in
    let low : c.max-lo.result ≡ max run.lo number = omega (arith, c.max-lo.ensures) in
    first_of_runs spans (drop at runs) (drop (suc at) runs) run number c.max-lo.result (run_got runs at run got) ends low follows
