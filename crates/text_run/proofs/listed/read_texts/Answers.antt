-- The stored entries are those that the texts name, or the texts are refused.
use Rattle.std.proofs.Common.{Ok, sym, ap, ◌∙◌}
use Rattle.text_run.proofs.MadeLists.{texts_held, texts_too_little}
use Rattle.text_run.specs.Making.{only_over}
use Rattle.text_run.specs.Over.{faulty, unnamed}
use Rattle.std.proofs.lemmas.Result.{err_from_is_err_and}
use Rattle.text_run.proofs.listed.read_texts.Goals as goal

pub returns-in_err-standing-clause-refused : goal.returns-in_err-standing-clause-refused
returns-in_err-standing-clause-refused c =
    let p = err_from_is_err_and c.from_residual.result c.from_residual.ensures.1 in
    rw (p.1, p.2) (faulty (rw c.day.ensures at c.in_err-standing.ensures))

pub returns-in-Some-clause-refused : goal.returns-in-Some-clause-refused
returns-in-Some-clause-refused c =
    let adds = rw (c.new-revocations.ensures.nothing, c.day.ensures) at c.in_ok-standing.ensures in
    texts_too_little c.args.inputs.now c.add_texts.new.revocations c.in_ok-standing.standing c.in-Some.fault adds c.in-Some.ensures

pub returns-in-Ok-clause-read : goal.returns-in-Ok-clause-read
returns-in-Ok-clause-read c =
    let adds = rw (c.new-revocations.ensures.nothing, c.day.ensures) at c.in_ok-standing.ensures in
    texts_held c.args.inputs.now c.add_texts.new.revocations c.in_ok-standing.standing adds c.in_default.ensures

pub returns-in-Ok-clause-over : goal.returns-in-Ok-clause-over
returns-in-Ok-clause-over c =
    let adds = rw (c.new-revocations.ensures.nothing, c.day.ensures) at c.in_ok-standing.ensures in
    ap only_over adds.1 ∙ ap Ok (sym c.over.ensures)

pub returns-in-Ok-clause-names : goal.returns-in-Ok-clause-names
returns-in-Ok-clause-names c =
    let adds = rw (c.new-revocations.ensures.nothing, c.day.ensures) at c.in_ok-standing.ensures in
    (_, adds.1, λ key. c.in-Ok.ensures.named key)

pub returns-clause-refused : goal.returns-clause-refused
returns-clause-refused c = unnamed c.in-Err.ensures.refused
