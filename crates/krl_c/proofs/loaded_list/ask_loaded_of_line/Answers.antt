-- The list is queried for the key of the line, or the answer is the line's fault.
use Rattle.krl_c.proofs.Common.{◌∙◌, of_key, rules, SFits, w32}
use Rattle.krl_c.proofs.AnswerMeaning.{line_refused, same}
use Rattle.krl_c.proofs.loaded_list.ask_loaded_of_line.Goals as goal

pub returns-in-Ok : goal.returns-in-Ok
returns-in-Ok c = λ entries means.
    let fits : SFits w32 c.ask_loaded.result = search rules in
    rw (same c.ask_loaded.result fits) (of_key _ _ _ c.in-Ok.ensures.found (rw c.as_slice.ensures at (c.ask_loaded.ensures entries means)))

pub returns-in-Err : goal.returns-in-Err
returns-in-Err c = λ entries means.
    let fits : SFits w32 c.of_line.result = search rules in
    line_refused entries c.args.line.now c.in-Err.fault _ c.in-Err.ensures.fault (same c.of_line.result fits ∙ c.of_line.ensures)
