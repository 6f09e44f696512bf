-- The answer is whether the list names the key of the query; otherwise it is the list's first
-- fault, or the blob's.
use Rattle.krl_c.proofs.Common.{◌∙◌, answered, false≢true, names, refl, rules, said, SFits, spares}
use Rattle.krl_c.proofs.Common.{sym, w32}
use Rattle.krl_c.proofs.AnswerMeaning.{list_refused, refused, same}
use Rattle.krl_c.proofs.check.ask_list.Goals as goal

pub returns-then-answer : goal.returns-then-answer
returns-then-answer c =
    let found = c.in-Ok-compared.ensures.found in
    answered found.0 found.1 (said c.in-Ok.asked c.in-Ok.ensures.found (names ((c.answer.ensures.meant found.0 found.2).0 c.if-answer.true) refl))

pub returns-in-Ok-compared : goal.returns-in-Ok-compared
returns-in-Ok-compared c =
    let found = c.in-Ok-compared.ensures.found in
    answered found.0 found.1 (said c.in-Ok.asked c.in-Ok.ensures.found (spares (λ is. false≢true (sym c.if-answer.false ∙ (c.answer.ensures.meant found.0 found.2).1 is)) refl))

pub returns-in-Ok : goal.returns-in-Ok
returns-in-Ok c =
    let fits : SFits w32 c.of_list.result = search rules in
    list_refused c.args.list.now c.in-Err-compared.refusal _ (λ _. record { subject = c.in-Ok.asked; is = c.in-Ok.ensures.found.subject }) c.in-Err-compared.ensures.refused (same c.of_list.result fits ∙ c.of_list.ensures)

pub returns-in-Ok-judge : goal.returns-in-Ok-judge
returns-in-Ok-judge c =
    let fits : SFits w32 c.of_blob.result = search rules in
    let list = c.in-Ok-judge.ensures.list in
    answered list.0 list.1 (refused list.0 c.args.blob.now c.in-Err.fault _ c.in-Err.ensures.fault (same c.of_blob.result fits ∙ c.of_blob.ensures))

pub returns : goal.returns
returns c =
    let fits : SFits w32 c.of_list-in-Err-judge.result = search rules in
    list_refused c.args.list.now c.in-Err-judge.refusal _ (λ none. absurd none) c.in-Err-judge.ensures.refused (same c.of_list-in-Err-judge.result fits ∙ c.of_list-in-Err-judge.ensures)
