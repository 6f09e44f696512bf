-- The search finds the first place where a last day can begin.
use Rattle.std.proofs.Common.{sym, ◌∙◌}
use Rattle.text_entries.proofs.DaySearch.{day_here, day_later, no_day}
use Rattle.text_entries.proofs.day.says_until.Goals as goal

pub returns-then-begins_with_day : goal.returns-then-begins_with_day
returns-then-begins_with_day c =
    let first = c.in-Some.ensures.0 in
    let is = sym c.begins_with_day.ensures ∙ c.if-begins_with_day.true in
    sym (day_here c.words.rest.now c.in-Some.at first.high first.before is) ∙ c.words.invariant

pub words-preserved : goal.words-preserved
words-preserved c =
    let first = c.in-Some.ensures.0 in
    let other = sym c.begins_with_day.ensures ∙ c.if-begins_with_day.false in
    day_later c.words.rest.now c.in-Some.at first.high first.before other ∙ c.words.invariant

pub returns : goal.returns
returns c = sym (no_day c.words.rest.now c.in_default.ensures) ∙ c.words.invariant
