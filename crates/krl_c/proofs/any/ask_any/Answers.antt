-- The list has the magic, or it is a plain list.
use Rattle.std.proofs.Common.{◌≡◌, ◌∙◌, rules, sym, true, false, w32, SFits}
use Rattle.plain_list.specs.Any.{begins_list}
use Rattle.krl_c.proofs.AnswerMeaning.{same}
use Rattle.krl_c.proofs.any.ask_any.Goals as goal

pub returns-then-begins_list : goal.returns-then-begins_list
returns-then-begins_list c =
    let fits : SFits w32 c.ask_list.result = search rules in
    let is : begins_list c.args.list.now ≡ true = sym c.begins_list.ensures ∙ c.if-begins_list.true in
    rw (is, same c.ask_list.result fits) c.ask_list.ensures

pub returns-else-begins_list : goal.returns-else-begins_list
returns-else-begins_list c =
    let fits : SFits w32 c.ask_plain.result = search rules in
    let is : begins_list c.args.list.now ≡ false = sym c.begins_list.ensures ∙ c.if-begins_list.false in
    rw (is, same c.ask_plain.result fits) c.ask_plain.ensures
