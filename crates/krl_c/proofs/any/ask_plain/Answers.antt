-- The keys on the lines are asked, or the list is refused.
use Rattle.std.proofs.Common.{refl, rules, ◌∙◌, w32, SFits}
use Rattle.plain_list.specs.List.{entries_of, lines_of}
use Rattle.plain_list.specs.Any.{IsPlainOf}
use Rattle.krl_c.specs.Any.{no_plain, plain}
use Rattle.krl_c.proofs.AnswerMeaning.{same}
use Rattle.krl_c.proofs.any.ask_plain.Goals as goal

pub returns-in-Ok : goal.returns-in-Ok
returns-in-Ok c =
    let fits : SFits w32 c.ask_loaded.result = search rules in
    let read = c.in-Ok.ensures in
    let entries = entries_of (lines_of c.args.list.now) in
    let is : IsPlainOf c.args.list.now entries = record { within = read.within; are_read = read.only; entries_are = refl } in
    rw (same c.ask_loaded.result fits) (plain entries is (c.ask_loaded.ensures entries read.found))

pub returns-in-Err : goal.returns-in-Err
returns-in-Err c =
    let fits : SFits w32 c.of_plain.result = search rules in
    no_plain c.in-Err.fault c.in-Err.ensures.fault (same c.of_plain.result fits ∙ c.of_plain.ensures)
