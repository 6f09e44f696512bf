-- The rest does not pass the test.
use Rattle.std.proofs.Common.{◌≡◌, ◌-◌, ◌<◌, false, length, get_or, sym, ◌∙◌, arith}
use Rattle.std.proofs.lemmas.List.{length-drop, take_all}
use Rattle.std.proofs.lemmas.List.Sums.{suffix_len_is}
use Rattle.std.specs.List.{suffix_len}
use Rattle.audit_lines.specs.Front.{is_no_slash, last_part, to_slash}
use Rattle.audit_lines.proofs.front.split_path.Goals as goal
use Rattle.audit_lines.proofs.front.split_path.Goals.{then-loop-end-test+else-is_no_slash, else-loop-end-test}

pub returns-clause-before : goal.returns-clause-before
unfolding to_slash
returns-clause-before c =
    let stops : 0 < c.loop-end.end → is_no_slash (get_or c.args.path.now (c.loop-end.end - 1) 0) ≡ false =
    λ h. elim c.loop-end-test.branch [ then-loop-end-test+else-is_no_slash w ↦ sym w.is_no_slash.ensures ∙ w.if-is_no_slash.false | else-loop-end-test w ↦ absurd (omega arith) ] in
    let size = suffix_len_is is_no_slash c.args.path.now c.loop-end.end 0 (omega arith) c.loop-end.invariant.1 stops in
    let same : length c.args.path.now - suffix_len is_no_slash c.args.path.now ≡ c.loop-end.end = omega arith in
    rw same

pub returns-clause-last : goal.returns-clause-last
unfolding last_part
returns-clause-last c =
    let stops : 0 < c.loop-end.end → is_no_slash (get_or c.args.path.now (c.loop-end.end - 1) 0) ≡ false =
    λ h. elim c.loop-end-test.branch [ then-loop-end-test+else-is_no_slash w ↦ sym w.is_no_slash.ensures ∙ w.if-is_no_slash.false | else-loop-end-test w ↦ absurd (omega arith) ] in
    let size = suffix_len_is is_no_slash c.args.path.now c.loop-end.end 0 (omega arith) c.loop-end.invariant.1 stops in
    let same : length c.args.path.now - suffix_len is_no_slash c.args.path.now ≡ c.loop-end.end = omega arith in
    rw same (grind (arith, length-drop, take_all))
