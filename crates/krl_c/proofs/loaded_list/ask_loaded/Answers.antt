-- The answer is whether the list names the key of the query, or the blob's fault.
use Rattle.krl_c.proofs.Common.{◌∙◌, arith, names, refl, rules, said, SFits, spares, w32}
use Rattle.krl_entries.specs.Revoked.{Revoked}
use Rattle.krl_c.proofs.AnswerMeaning.{refused, same}
use Rattle.krl_c.proofs.loaded_list.ask_loaded.Goals as goal

pub returns-then-query : goal.returns-then-query
returns-then-query c = λ entries means.
    said c.in-Ok.asked c.in-Ok.ensures.found (names ((c.query.ensures.revoked entries means).0 c.if-query.true) refl)

pub returns-in-Ok : goal.returns-in-Ok
returns-in-Ok c = λ entries means.
    let spared : ¬ Revoked entries c.in-Ok.asked = λ is. grind (arith, (c.query.ensures.revoked entries means).1 is, c.if-query.false) in
    said c.in-Ok.asked c.in-Ok.ensures.found (spares spared refl)

pub returns : goal.returns
returns c = λ entries means.
    let fits : SFits w32 c.of_blob.result = search rules in
    refused entries c.args.blob.now c.in-Err.fault _ c.in-Err.ensures.fault (same c.of_blob.result fits ∙ c.of_blob.ensures)
