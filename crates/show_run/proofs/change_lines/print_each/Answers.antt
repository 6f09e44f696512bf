-- Each side and the last line are printed, or end the run.
use Rattle.std.proofs.Common.{◌++◌, Err}
use Rattle.std.proofs.lemmas.Result.{err_from_is_err_and}
use Rattle.run_output.proofs.RunParts.{carries_more, carries_then}
use Rattle.list_text.specs.declared.counts.Counts.{Counts}
use Rattle.list_text.specs.declared.side.Side.TheVariants.{Added, Removed}
use Rattle.show_run.specs.ChangeLines.{change_items, last_items, side_counts, side_items}
use Rattle.show_run.proofs.change_lines.print_each.Goals as goal

pub returns-in_err-added : goal.returns-in_err-added
unfolding change_items
returns-in_err-added g c =
    let p = err_from_is_err_and c.from_residual.result c.from_residual.ensures.1 in
    let changes = c.args.changes.now in
    let comparison = c.args.comparison in
    rw (p.1, p.2) (carries_more {A = Counts} {B = Unit {0}} (side_items comparison Added changes.added) _ _ _ _ c.in_err-added.ensures.carries)

pub returns-in_err-removed : goal.returns-in_err-removed
unfolding change_items
returns-in_err-removed g c =
    let p = err_from_is_err_and c.from_residual-in_err-removed.result c.from_residual-in_err-removed.ensures.1 in
    let changes = c.args.changes.now in
    let comparison = c.args.comparison in
    let last = last_items comparison.json (side_counts changes.added) (side_counts changes.removed) in
    rw (p.1, p.2) (carries_then {B = Unit {0}} (side_items comparison Added changes.added) (side_items comparison Removed changes.removed ++ last) c.in_ok-added.added (Err _) _ _ _ c.in_ok-added.ensures.carries
    (carries_more {A = Counts} {B = Unit {0}} (side_items comparison Removed changes.removed) last _ _ _ c.in_err-removed.ensures.carries))

pub returns : goal.returns
unfolding change_items
returns g c =
    let changes = c.args.changes.now in
    let comparison = c.args.comparison in
    let last = last_items comparison.json (side_counts changes.added) (side_counts changes.removed) in
    let done = rw (c.in_ok-added.ensures.counts, c.in_ok-removed.ensures.counts) at c.print_last.ensures in
    carries_then (side_items comparison Added changes.added) (side_items comparison Removed changes.removed ++ last) c.in_ok-added.added _ _ _ _ c.in_ok-added.ensures.carries
    (carries_then (side_items comparison Removed changes.removed) last c.in_ok-removed.removed _ _ _ _ c.in_ok-removed.ensures.carries done)
