-- The answer is why the list names the key of the query; otherwise it is the list's first fault, or
-- the blob's.
use Rattle.krl_c.proofs.Common.{◌<◌, ◌^◌, ◌∙◌, answered, arith, rules, SFits, to_z_pos}
use Rattle.krl_c.proofs.Common.{w32}
use Rattle.krl_c.specs.Why.{explained}
use Rattle.krl_c.proofs.ReasonBits.{has_reasons, unexplained}
use Rattle.krl_c.proofs.AnswerMeaning.{list_refused, same}
use Rattle.krl_c.proofs.why.explain_list.Goals as goal

pub returns-in-Ok-compared : goal.returns-in-Ok-compared
returns-in-Ok-compared c =
    let found = c.in-Ok-compared.ensures.found in
    let all = c.reasons.result in
    let has = has_reasons found.0 c.in-Ok.asked all c.reasons.ensures.small (c.reasons.ensures.meant found.0 found.2) in
    let fits : all.bits < 2 ^ 31 = omega (arith, has.within) in
    answered found.0 found.1 (explained c.in-Ok.asked all.bits c.in-Ok.ensures.found has (to_z_pos w32 all.bits fits))

pub returns-in-Ok : goal.returns-in-Ok
returns-in-Ok c =
    let fits : SFits w32 c.of_list.result = search rules in
    list_refused c.args.list.now c.in-Err-compared.refusal _ (λ _. record { subject = c.in-Ok.asked; is = c.in-Ok.ensures.found.subject }) c.in-Err-compared.ensures.refused (same c.of_list.result fits ∙ c.of_list.ensures)

pub returns-in-Ok-judge : goal.returns-in-Ok-judge
returns-in-Ok-judge c =
    let fits : SFits w32 c.of_blob.result = search rules in
    let list = c.in-Ok-judge.ensures.list in
    answered list.0 list.1 (unexplained list.0 c.args.blob.now c.in-Err.fault _ c.in-Err.ensures.fault (same c.of_blob.result fits ∙ c.of_blob.ensures))

pub returns : goal.returns
returns c =
    let fits : SFits w32 c.of_list-in-Err-judge.result = search rules in
    list_refused c.args.list.now c.in-Err-judge.refusal _ (λ none. absurd none) c.in-Err-judge.ensures.refused (same c.of_list-in-Err-judge.result fits ∙ c.of_list-in-Err-judge.ensures)
