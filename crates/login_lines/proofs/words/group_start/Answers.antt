use Rattle.std.proofs.Common.{◌≡◌, ◌-◌, ◌<◌, false, length, get_or, arith}
use Rattle.std.proofs.lemmas.List.Sums.{suffix_len_is}
use Rattle.std.specs.List.{suffix_len}
use Rattle.login_lines.specs.Words.{is_no_parenthesis}
use Rattle.login_lines.proofs.words.group_start.Goals as goal
use Rattle.login_lines.proofs.words.group_start.Goals.{then-loop-end-test+else-text-end-ne40, else-loop-end-test}

pub returns-clause-at : goal.returns-clause-at
returns-clause-at c =
    let stops : 0 < c.loop-end.end → is_no_parenthesis (get_or c.args.text.now (c.loop-end.end - 1) 0) ≡ false =
    λ h. elim c.loop-end-test.branch [ then-loop-end-test+else-text-end-ne40 w ↦ grind (arith, w.if-text-end-ne40.false) | else-loop-end-test w ↦ absurd (omega arith) ] in
    let size =
    suffix_len_is is_no_parenthesis c.args.text.now c.loop-end.end 0 (omega arith) c.loop-end.invariant.1 stops in
    let same : length c.args.text.now - suffix_len is_no_parenthesis c.args.text.now ≡ c.loop-end.end = omega arith in
    omega (arith, same, c.saturating_sub.ensures)
