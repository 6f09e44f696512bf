-- The rest does not pass the test.
use Rattle.std.proofs.Common.{◌≡◌, ◌-◌, ◌<◌, false, length, get_or, sym, ◌∙◌, arith}
use Rattle.std.proofs.lemmas.List.Sums.{suffix_len_is}
use Rattle.std.specs.List.{suffix_len}
use Rattle.key_text.specs.Blanks.{is_blank}
use Rattle.audit_lines.specs.Front.{before_blanks}
use Rattle.audit_lines.proofs.front.before_blanks.Goals as goal
use Rattle.audit_lines.proofs.front.before_blanks.Goals.{then-loop-end-test+else-is_blank, else-loop-end-test}

pub returns : goal.returns
unfolding before_blanks
returns c =
    let stops : 0 < c.loop-end.end → is_blank (get_or c.args.text.now (c.loop-end.end - 1) 0) ≡ false =
    λ h. elim c.loop-end-test.branch [ then-loop-end-test+else-is_blank w ↦ sym w.is_blank.ensures ∙ w.if-is_blank.false | else-loop-end-test w ↦ absurd (omega arith) ] in
    let size = suffix_len_is is_blank c.args.text.now c.loop-end.end 0 (omega arith) c.loop-end.invariant.1 stops in
    let same : length c.args.text.now - suffix_len is_blank c.args.text.now ≡ c.loop-end.end = omega arith in
    rw same
