use Rattle.std.proofs.Common.{◌≡◌, ◌-◌, ◌<◌, false, length, get_or, sym, ◌∙◌, arith}
use Rattle.std.proofs.lemmas.List.Sums.{suffix_len_is}
use Rattle.std.specs.List.{suffix_len}
use Rattle.key_text.specs.Blanks.{before_ending, is_ending}
use Rattle.key_text.proofs.line.words.before_ending.Goals as goal
use Rattle.key_text.proofs.line.words.before_ending.Goals.{then-loop-end-test+else-is_ending, else-loop-end-test}

pub returns : goal.returns
unfolding before_ending
returns c =
    let stops : 0 < c.loop-end.end → is_ending (get_or c.args.text.now (c.loop-end.end - 1) 0) ≡ false =
    λ h. elim c.loop-end-test.branch [ then-loop-end-test+else-is_ending w ↦ sym w.is_ending.ensures ∙ w.if-is_ending.false | else-loop-end-test w ↦ absurd (omega arith) ] in
    let size = suffix_len_is is_ending c.args.text.now c.loop-end.end 0 (omega arith) c.loop-end.invariant.1 stops in
    let same : length c.args.text.now - suffix_len is_ending c.args.text.now ≡ c.loop-end.end = omega arith in
    rw same
