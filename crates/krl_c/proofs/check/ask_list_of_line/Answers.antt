-- The list is queried for the key of the line; otherwise the answer is the list's first fault, or
-- the line's.
use Rattle.krl_c.proofs.Common.{◌∙◌, answered, rules, SFits, w32}
use Rattle.krl_c.proofs.AnswerMeaning.{line_refused, list_refused, of_its_blob, same}
use Rattle.krl_c.proofs.check.ask_list_of_line.Goals as goal

pub returns-in-Ok : goal.returns-in-Ok
returns-in-Ok c =
    let fits : SFits w32 c.ask_list.result = search rules in
    rw (same c.ask_list.result fits) (of_its_blob _ _ _ _ _ _ c.in-Ok.ensures.found (rw c.as_slice.ensures at c.ask_list.ensures))

pub returns-in-Ok-judge : goal.returns-in-Ok-judge
returns-in-Ok-judge c =
    let fits : SFits w32 c.of_line.result = search rules in
    let list = c.in-Ok-judge.ensures.list in
    answered list.0 list.1 (line_refused list.0 c.args.line.now c.in-Err.fault _ c.in-Err.ensures.fault (same c.of_line.result fits ∙ c.of_line.ensures))

pub returns-in-Err-judge : goal.returns-in-Err-judge
returns-in-Err-judge c =
    let fits : SFits w32 c.of_list.result = search rules in
    list_refused c.args.list.now c.in-Err-judge.refusal _ (λ none. absurd none) c.in-Err-judge.ensures.refused (same c.of_list.result fits ∙ c.of_list.ensures)
