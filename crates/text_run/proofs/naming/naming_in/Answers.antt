-- The first text that gives such a name is found.
use Rattle.std.proofs.Common.{refl}
use Rattle.std.proofs.lemmas.List.{drop_all}
use Rattle.text_run.proofs.TextsAdded.{texts_next}
use Rattle.text_run.proofs.naming.naming_in.Goals as goal

pub returns-in-Some : goal.returns-in-Some
returns-in-Some c =
    let next = texts_next c.args.texts.now c.loop-text.text-index c.text-item.result c.text-item.is c.loop-text-test.true in
    let at = rw next at c.loop-text.invariant in
    rw (at, c.in-Some.ensures) refl

pub loop-text-preserved : goal.loop-text-preserved
loop-text-preserved c =
    let next = texts_next c.args.texts.now c.loop-text.text-index c.text-item.result c.text-item.is c.loop-text-test.true in
    let at = rw next at c.loop-text.invariant in
    rw c.in_default.ensures at at

pub returns : goal.returns
returns c = rw (drop_all c.loop-text.text-index c.args.texts.now c.loop-text-test.false) at c.loop-text.invariant
