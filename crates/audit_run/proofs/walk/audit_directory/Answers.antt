-- The directory was entered, and is walked.
use Rattle.std.proofs.Common.{sym}
use Rattle.std.proofs.lemmas.Result.{err_from_is_err_and}
use Rattle.audit_run.specs.Walk.{level_in}
use Rattle.audit_run.proofs.Directory.{directory_first, directory_none, directory_out}
use Rattle.audit_run.proofs.Turning.{walk_begun}
use Rattle.audit_run.proofs.walk.audit_directory.Goals as goal

pub returns-in_err-named : goal.returns-in_err-named
returns-in_err-named g c =
    let p = err_from_is_err_and c.from_residual.result c.from_residual.ensures.1 in
    rw (p.1, p.2, sym c.round.view_is) (directory_none (g.T.Tree.states c.args.tree.now) c.args.search c.args.path.now _)

pub returns-in_err-first : goal.returns-in_err-first
returns-in_err-first g c =
    let p = err_from_is_err_and c.from_residual-in_err-first.result c.from_residual-in_err-first.ensures.1 in
    rw (p.1, p.2, sym c.round.view_is) (directory_first (g.T.Tree.states c.args.tree.now) c.args.search c.args.path.now
    c.in_err-first.field-0.0 level_in _ _ (rw c.in_ok-named.ensures.ok at c.in_err-first.ensures))

pub returns-in_err-push_below : goal.returns-in_err-push_below
returns-in_err-push_below g c =
    let p = err_from_is_err_and c.from_residual-in_err-push_below.result c.from_residual-in_err-push_below.ensures.1 in
    let first = rw c.in_ok-named.ensures.ok at c.in_ok-first.ensures in
    rw (p.1, p.2, sym c.round.view_is) (directory_out (g.T.Tree.states c.args.tree.now) c.args.search c.args.path.now
    first.visits (level_in c.in_ok-first.first) _ _ first.is first.meets)

pub returns : goal.returns
returns g c =
    let first = rw c.in_ok-named.ensures.ok at c.in_ok-first.ensures in
    let held = rw c.new-entered.ensures.items at c.in_ok-push_below.ensures in
    c.walk.ensures c.args.round.now (rw (held, sym c.round.view_is) (walk_begun (g.T.Tree.states c.args.tree.now) c.args.search c.args.path.now
    first.visits (level_in c.in_ok-first.first) _ _ first.is first.meets))
