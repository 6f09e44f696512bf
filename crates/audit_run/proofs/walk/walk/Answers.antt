-- Each step continues the walk, or stops it.
use Rattle.std.proofs.Common.{[], ◌∷◌, ◌∙◌, ◌++◌, ap, List}
use Rattle.std.proofs.lemmas.Result.{err_from_is_err_and}
use Rattle.audit_run.specs.Walk.{level_of, levels_of}
use Rattle.audit_run.specs.declared.walk.Entered.{Entered}
use Rattle.audit_run.proofs.Directory.{directory_endless, directory_stopped, directory_walked}
use Rattle.audit_run.proofs.Turning.{levels_more, walked_more}
use Rattle.audit_run.proofs.walk.walk.Goals as goal

pub turns-init : goal.turns-init
turns-init g c = λ begun was. was

pub returns-in_default : goal.returns-in_default
returns-in_default g c = λ begun was.
    let rest = rw c.in_default.ensures.cases.0 at c.in_default.ensures.rest in
    let ends = ap (λ (all : List Entered). levels_of all) (c.in_default.ensures.items ∙ ap (λ (all : List Entered). all ++ []) rest) in
    directory_walked (g.T.Tree.states c.args.tree.now) c.args.search c.args.path.now c.turns._turn (levels_of c.turns.entered.items)
    c.end_directory.result begun _ _ ends (c.turns.invariant begun was) c.end_directory.ensures

pub returns-in_err-take_turn : goal.returns-in_err-take_turn
returns-in_err-take_turn g c =
    let p = err_from_is_err_and c.from_residual.result c.from_residual.ensures.1 in
    let held = ap (λ (all : List Entered). levels_of all) c.in-Some.ensures.items ∙ levels_more c.pop.new.self.items c.in-Some.last in
    rw (p.1, p.2) (λ begun was.
    directory_stopped (g.T.Tree.states c.args.tree.now) c.args.search c.args.path.now c.turns._turn
    (levels_of c.pop.new.self.items ++ level_of c.in-Some.last ∷ []) [] c.in_err-take_turn.field-0.0 begun _ _
    (rw held at (c.turns.invariant begun was)) c.in_err-take_turn.ensures)

pub turns-preserved : goal.turns-preserved
turns-preserved g c = λ begun was.
    let held = ap (λ (all : List Entered). levels_of all) c.in-Some.ensures.items ∙ levels_more c.pop.new.self.items c.in-Some.last in
    let turn = c.in_ok-take_turn.ensures in
    walked_more (g.T.Tree.states c.args.tree.now) c.args.search c.args.path.now c.turns._turn
    (levels_of c.pop.new.self.items ++ level_of c.in-Some.last ∷ []) (levels_of c.take_turn.new.entered.items) turn.visits _ _ _
    (rw held at (c.turns.invariant begun was)) turn.is turn.meets

pub returns : goal.returns
returns g c = λ begun was.
    directory_endless (g.T.Tree.states c.args.tree.now) c.args.search c.args.path.now c.turns._turn (levels_of c.turns.entered.items)
    c.audit.result begun _ _ c.turns-test.false (c.turns.invariant begun was) c.audit.ensures
