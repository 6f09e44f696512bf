-- The name is that of a file, or standard input.
use Rattle.std.proofs.Common.{◌≡◌, ap, false, true, rules, sym}
use Rattle.audit_run.specs.Named.{is_input}
use Rattle.audit_run.specs.Reading.{SomeFailed, left_in}
use Rattle.login_run.proofs.Visiting.{visits_again, visits_file, visits_input}
use Rattle.login_run.proofs.visit.visit.Goals as goal

pub returns-then-ne-clause-visits : goal.returns-then-ne-clause-visits
returns-then-ne-clause-visits g c =
    let other : is_input c.args.name.now ≡ false = search rules in
    visits_file (g.T.Tree.states c.args.tree.now) (SomeFailed g.I.Source.has_failed) c.args.name.now (left_in g.I.Source.left c.args.input.now) c.visit_file.result _ _ other c.visit_file.ensures

pub returns-in-Some-clause-visits : goal.returns-in-Some-clause-visits
returns-in-Some-clause-visits g c =
    let same : is_input c.args.name.now ≡ true = search rules in
    visits_input (g.T.Tree.states c.args.tree.now) (SomeFailed g.I.Source.has_failed) c.args.name.now (g.I.Source.left c.in-Some.reader) _ _ c.visit_input.result _ _ same
    (ap (left_in g.I.Source.left) (sym c.in-Some.ensures.value)) (ap (left_in g.I.Source.left) c.in-Some.ensures.after) c.visit_input.ensures

pub returns-in-None-clause-visits : goal.returns-in-None-clause-visits
returns-in-None-clause-visits g c =
    let same : is_input c.args.name.now ≡ true = search rules in
    visits_again (g.T.Tree.states c.args.tree.now) (SomeFailed g.I.Source.has_failed) c.args.name.now _ _ (tt {0}) _ same
    (ap (left_in g.I.Source.left) (sym c.in-None.ensures.value)) (ap (left_in g.I.Source.left) c.in-None.ensures.after)
