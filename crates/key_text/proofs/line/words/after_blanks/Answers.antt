use Rattle.std.proofs.Common.{sym, ◌∙◌, arith}
use Rattle.std.proofs.lemmas.List.{drop_all, take_rest}
use Rattle.std.proofs.lemmas.List.Sums.{prefix_len_is}
use Rattle.key_text.specs.Blanks.{after_blanks, is_blank}
use Rattle.key_text.proofs.line.words.after_blanks.Goals as goal

pub returns-then-not-is_blank : goal.returns-then-not-is_blank
unfolding after_blanks
returns-then-not-is_blank c =
    let size = prefix_len_is is_blank c.args.text.now c.loop-i.i 0 (omega arith) c.loop-i.invariant (λ h. sym c.is_blank.ensures ∙ c.if-not-is_blank.true) in
    rw size (take_rest c.args.text.now c.loop-i.i)

pub returns : goal.returns
unfolding after_blanks
returns c =
    let size = prefix_len_is is_blank c.args.text.now c.loop-i.i 0 (omega arith) c.loop-i.invariant (λ h. absurd (omega arith)) in
    rw size (sym (drop_all c.loop-i.i c.args.text.now (omega arith)))
