-- The rest does not pass the test.
use Rattle.std.proofs.Common.{◌≡◌, ◌-◌, ◌<◌, false, length, get_or, sym, ◌∙◌, arith}
use Rattle.std.proofs.lemmas.List.Sums.{suffix_len_is}
use Rattle.std.specs.List.{suffix_len}
use Rattle.audit_lines.specs.Front.{before_slashes, is_slash}
use Rattle.audit_lines.proofs.front.before_slashes.Goals as goal
use Rattle.audit_lines.proofs.front.before_slashes.Goals.{then-loop-end-test+else-is_slash, else-loop-end-test}

pub returns : goal.returns
unfolding before_slashes
returns c =
    let stops : 0 < c.loop-end.end → is_slash (get_or c.args.path.now (c.loop-end.end - 1) 0) ≡ false =
    λ h. elim c.loop-end-test.branch [ then-loop-end-test+else-is_slash w ↦ sym w.is_slash.ensures ∙ w.if-is_slash.false | else-loop-end-test w ↦ absurd (omega arith) ] in
    let size = suffix_len_is is_slash c.args.path.now c.loop-end.end 0 (omega arith) c.loop-end.invariant.1 stops in
    let same : length c.args.path.now - suffix_len is_slash c.args.path.now ≡ c.loop-end.end = omega arith in
    rw same
