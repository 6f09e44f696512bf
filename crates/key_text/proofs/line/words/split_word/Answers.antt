use Rattle.std.proofs.Common.{not, sym, ap, ◌∙◌, arith}
use Rattle.std.proofs.lemmas.List.{take_all, drop_all}
use Rattle.std.proofs.lemmas.List.Sums.{prefix_len_is}
use Rattle.key_text.specs.Blanks.{first_word, is_blank}
use Rattle.key_text.specs.LineReading.{after_word}
use Rattle.key_text.proofs.line.words.split_word.Goals as goal

pub returns-then-is_blank-clause-word : goal.returns-then-is_blank-clause-word
unfolding first_word
returns-then-is_blank-clause-word c =
    let size = prefix_len_is (λ byte. not (is_blank byte)) c.args.text.now c.loop-i.i 0 (omega arith) (λ k h. ap not (c.loop-i.invariant k h)) (λ h. ap not (sym c.is_blank.ensures ∙ c.if-is_blank.true)) in
    rw size c.split_at.ensures.front

pub returns-then-is_blank-clause-rest : goal.returns-then-is_blank-clause-rest
unfolding after_word
returns-then-is_blank-clause-rest c =
    let size = prefix_len_is (λ byte. not (is_blank byte)) c.args.text.now c.loop-i.i 0 (omega arith) (λ k h. ap not (c.loop-i.invariant k h)) (λ h. ap not (sym c.is_blank.ensures ∙ c.if-is_blank.true)) in
    rw size c.split_at.ensures.back

pub returns-clause-word : goal.returns-clause-word
unfolding first_word
returns-clause-word c =
    let size = prefix_len_is (λ byte. not (is_blank byte)) c.args.text.now c.loop-i.i 0 (omega arith) (λ k h. ap not (c.loop-i.invariant k h)) (λ h. absurd (omega arith)) in
    rw size (sym (take_all c.loop-i.i c.args.text.now (omega arith)))

pub returns-clause-rest : goal.returns-clause-rest
unfolding after_word
returns-clause-rest c =
    let size = prefix_len_is (λ byte. not (is_blank byte)) c.args.text.now c.loop-i.i 0 (omega arith) (λ k h. ap not (c.loop-i.invariant k h)) (λ h. absurd (omega arith)) in
    rw size (sym (drop_all c.loop-i.i c.args.text.now (omega arith)))
