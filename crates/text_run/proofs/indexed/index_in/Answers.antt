-- Each text is indexed, or stops the run.
use Rattle.std.proofs.Common.{inr}
use Rattle.std.proofs.lemmas.List.{drop_all}
use Rattle.std.proofs.lemmas.Result.{err_from_is_err_and}
use Rattle.text_run.proofs.TextsAdded.{text_stops, texts_next}
use Rattle.text_run.proofs.TextsIndexed.{all_indexed, none_indexed, text_indexed}
use Rattle.text_run.proofs.indexed.index_in.Goals as goal

pub loop-text-init : goal.loop-text-init
loop-text-init c = rw (c.new-standing.ensures, c.day_of.ensures) (none_indexed _ _ _ _ c.new-index.ensures.by c.new-index.ensures.none)

pub returns-in_err-index_text-clause-refused : goal.returns-in_err-index_text-clause-refused
returns-in_err-index_text-clause-refused c =
    let p = err_from_is_err_and c.from_residual.result c.from_residual.ensures.1 in
    let at = rw (texts_next c.args.texts.now c.loop-text.text-index c.text-item.result c.text-item.is c.loop-text-test.true) at c.loop-text.invariant in
    rw (p.1, p.2) (inr (text_stops _ _ _ _ _ _ at.are c.in_err-index_text.ensures))

pub loop-text-preserved : goal.loop-text-preserved
loop-text-preserved c =
    let at = rw (texts_next c.args.texts.now c.loop-text.text-index c.text-item.result c.text-item.is c.loop-text-test.true) at c.loop-text.invariant in
    text_indexed _ _ _ _ _ _ _ _ _ at c.in_ok-index_text.ensures

pub returns-in-Ok-clause-indexed : goal.returns-in-Ok-clause-indexed
returns-in-Ok-clause-indexed c =
    all_indexed _ _ _ _ _ _ (rw (drop_all c.loop-text.text-index c.args.texts.now c.loop-text-test.false) at c.loop-text.invariant) c.in-Ok.ensures
