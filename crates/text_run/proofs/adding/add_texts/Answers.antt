-- Each text is added, or stops the run.
use Rattle.std.proofs.lemmas.List.{drop_all}
use Rattle.std.proofs.lemmas.Result.{err_from_is_err_and}
use Rattle.text_run.proofs.TextsAdded.{all_added, none_added, text_added, text_stops, texts_next}
use Rattle.text_run.proofs.adding.add_texts.Goals as goal

pub loop-text-init : goal.loop-text-init
loop-text-init g c = rw c.new-standing.ensures (none_added _ _ _)

pub returns-in_err-add_text : goal.returns-in_err-add_text
returns-in_err-add_text g c =
    let p = err_from_is_err_and c.from_residual.result c.from_residual.ensures.1 in
    let at = rw (texts_next c.args.texts.now c.loop-text.text-index c.text-item.result c.text-item.is c.loop-text-test.true) at c.loop-text.invariant in
    rw (p.1, p.2) (text_stops _ _ _ _ _ _ at.are c.in_err-add_text.ensures)

pub loop-text-preserved : goal.loop-text-preserved
loop-text-preserved g c =
    let at = rw (texts_next c.args.texts.now c.loop-text.text-index c.text-item.result c.text-item.is c.loop-text-test.true) at c.loop-text.invariant in
    text_added _ _ _ _ _ _ _ _ _ at c.in_ok-add_text.ensures

pub returns : goal.returns
returns g c = all_added _ _ _ _ _ (rw (drop_all c.loop-text.text-index c.args.texts.now c.loop-text-test.false) at c.loop-text.invariant)
