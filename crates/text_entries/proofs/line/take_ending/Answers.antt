-- The line is over, and only its entry is left out.
use Rattle.std.proofs.Common.{◌≡◌, true, rules, sym, ◌∙◌}
use Rattle.text_entries.specs.Day.{is_over}
use Rattle.text_entries.proofs.Said.{over_line}
use Rattle.text_entries.proofs.line.take_ending.Goals as goal

pub returns : goal.returns
returns g c =
    let ends = rw c.named_in.ensures at (sym c.can_end.ensures ∙ c.if-not-can_end.false) in
    let over : is_over c.args.standing.now.today c.in-Some.day ≡ true = search rules in
    rw (c.in-Some.is, ends, over, c.saturating_add-standing.ensures) (over_line _ _ _ _ _ _ c.in_ok-take_content.ensures)
