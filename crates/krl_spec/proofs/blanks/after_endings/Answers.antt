use Rattle.std.proofs.Common.{sym, ◌∙◌, arith}
use Rattle.std.proofs.lemmas.List.{drop_all, take_rest}
use Rattle.std.proofs.lemmas.List.Sums.{prefix_len_is}
use Rattle.key_text.specs.Blanks.{is_ending}
use Rattle.krl_spec.specs.Blanks.{after_endings}
use Rattle.krl_spec.proofs.blanks.after_endings.Goals as goal

pub returns-then-not-is_ending : goal.returns-then-not-is_ending
unfolding after_endings
returns-then-not-is_ending c =
    let size = prefix_len_is is_ending c.args.text.now c.loop-at.at 0 (omega arith) c.loop-at.invariant (λ h. sym c.is_ending.ensures ∙ c.if-not-is_ending.true) in
    rw size (take_rest c.args.text.now c.loop-at.at)

pub returns : goal.returns
unfolding after_endings
returns c =
    let size = prefix_len_is is_ending c.args.text.now c.loop-at.at 0 (omega arith) c.loop-at.invariant (λ h. absurd (omega arith)) in
    rw size (sym (drop_all c.loop-at.at c.args.text.now (omega arith)))
