-- The directory is left, or its next name is gone to.
use Rattle.std.proofs.Common.{[], ◌++◌, ◌∙◌, ap, List, ℕ, None, Some, inl}
use Rattle.std.specs.Global.{Vec}
use Rattle.std.specs.Prelude.{is_some}
use Rattle.std.proofs.lemmas.Result.{err_from_is_err_and}
use Rattle.audit_run.specs.Walk.{level_in, level_of, levels_of}
use Rattle.audit_run.proofs.Auditing.{meets_then, nothing_met}
use Rattle.audit_run.proofs.Turning.{below_turn, down_stopped, down_turn, entry_stopped, entry_turn, here_turn, leave_turn}
use Rattle.audit_run.proofs.Turning.{met_then_out}
use Rattle.audit_run.proofs.walk.take_turn.Goals as goal

pub returns-in_default : goal.returns-in_default
returns-in_default g c =
    let rest = rw c.in_default.ensures.cases.0 at c.in_default.ensures.rest in
    record {
      visits = [];
      is = leave_turn (g.T.Tree.states c.args.tree.now) c.args.search (levels_of c.args.entered.now.items) (level_of c.args.last)
          (c.in_default.ensures.items ∙ ap (λ (names : List (Vec ℕ)). names ++ []) rest);
      meets = nothing_met _;
    }

pub returns-in_err-below : goal.returns-in_err-below
returns-in_err-below g c =
    let p = err_from_is_err_and c.from_residual.result c.from_residual.ensures.1 in
    let was = rw (c.as_slice.ensures.value, c.as_str.ensures.value) at c.in_err-below.ensures.entry in
    rw (p.1, p.2) (record {
      visits = was.visits;
      is = entry_stopped (g.T.Tree.states c.args.tree.now) c.args.search (levels_of c.args.entered.now.items) []
          (level_of c.args.last) c.pop.new.self.items c.in-Some.name c.in_err-below.field-0.0 was.visits
          c.in-Some.ensures.items was.is;
      meets = was.meets;
    })

pub returns-in_err-push_entered : goal.returns-in_err-push_entered
returns-in_err-push_entered g c =
    let p = err_from_is_err_and c.from_residual-in_err-push_entered.result c.from_residual-in_err-push_entered.ensures.1 in
    let was = rw (c.as_slice.ensures.value, c.as_str.ensures.value) at c.in_ok-below.ensures.entry in
    rw (p.1, p.2) (record {
      visits = was.visits;
      is = inl (
        tt,
        entry_turn (g.T.Tree.states c.args.tree.now) c.args.search (levels_of c.args.entered.now.items) []
            (level_of c.args.last) c.pop.new.self.items c.in-Some.name (is_some c.in_ok-below.below) was.visits
            c.in-Some.ensures.items was.is,
      );
      meets = met_then_out was.visits _ _ was.meets;
    })

pub returns-in_default-below : goal.returns-in_default-below
returns-in_default-below g c =
    let was = rw (c.as_slice.ensures.value, c.as_str.ensures.value, c.in_default-below.is) at c.in_ok-below.ensures.entry in
    record {
      visits = was.visits;
      is = here_turn (g.T.Tree.states c.args.tree.now) c.args.search (levels_of c.args.entered.now.items) _
          (level_of c.args.last) c.pop.new.self.items c.in-Some.name was.visits c.in-Some.ensures.items was.is
          c.in_ok-push_entered.ensures;
      meets = was.meets;
    }

pub returns-in_err-next : goal.returns-in_err-next
returns-in_err-next g c =
    let p = err_from_is_err_and c.from_residual-in_err-next.result c.from_residual-in_err-next.ensures.1 in
    let was = rw (c.as_slice.ensures.value, c.as_str.ensures.value, c.in-Some-below.is) at c.in_ok-below.ensures.entry in
    let path = rw (c.as_slice.ensures.value, c.as_str.ensures.value, c.in-Some-below.is) at c.in_ok-below.ensures.below in
    let more = c.in_err-next.ensures in
    rw (p.1, p.2) (record {
      visits = was.visits ++ more.visits;
      is = down_stopped (g.T.Tree.states c.args.tree.now) c.args.search (levels_of c.args.entered.now.items) []
          (level_of c.args.last) c.pop.new.self.items c.in-Some.name was.visits more.visits _ c.in_err-next.field-0.0 level_in
          c.in-Some.ensures.items was.is path more.is;
      meets = meets_then was.visits more.visits (Some c.in_err-next.field-0.0) _ _ _ was.meets more.meets;
    })

pub returns-in_err-push_below : goal.returns-in_err-push_below
returns-in_err-push_below g c =
    let p = err_from_is_err_and c.from_residual-in_err-push_below.result c.from_residual-in_err-push_below.ensures.1 in
    let was = rw (c.as_slice.ensures.value, c.as_str.ensures.value, c.in-Some-below.is) at c.in_ok-below.ensures.entry in
    let path = rw (c.as_slice.ensures.value, c.as_str.ensures.value, c.in-Some-below.is) at c.in_ok-below.ensures.below in
    let more = c.in_ok-next.ensures in
    rw (p.1, p.2) (record {
      visits = was.visits ++ more.visits;
      is = inl (
        tt,
        inl (
          _,
          down_turn (g.T.Tree.states c.args.tree.now) c.args.search (levels_of c.args.entered.now.items)
              (level_of c.args.last) c.pop.new.self.items c.in-Some.name was.visits more.visits _ (level_in c.in_ok-next.next)
              c.in-Some.ensures.items was.is path more.is,
        ),
      );
      meets = met_then_out (was.visits ++ more.visits) _ _ (meets_then was.visits more.visits None _ _ _ was.meets more.meets);
    })

pub returns : goal.returns
returns g c =
    let was = rw (c.as_slice.ensures.value, c.as_str.ensures.value, c.in-Some-below.is) at c.in_ok-below.ensures.entry in
    let path = rw (c.as_slice.ensures.value, c.as_str.ensures.value, c.in-Some-below.is) at c.in_ok-below.ensures.below in
    let more = c.in_ok-next.ensures in
    record {
      visits = was.visits ++ more.visits;
      is = below_turn (g.T.Tree.states c.args.tree.now) c.args.search (levels_of c.args.entered.now.items) _ _
          (level_of c.args.last) c.pop.new.self.items c.in-Some.name was.visits more.visits _ (level_in c.in_ok-next.next)
          c.in-Some.ensures.items was.is path more.is c.in_ok-push_entered.ensures c.in_ok-push_below.ensures;
      meets = meets_then was.visits more.visits None _ _ _ was.meets more.meets;
    }
