-- The word ends at the first byte that ends one, or with the line.
use Rattle.std.proofs.Common.{not, sym, ap, arith}
use Rattle.std.proofs.lemmas.List.{take_all}
use Rattle.std.proofs.lemmas.List.Sums.{prefix_len_is}
use Rattle.text_entries.specs.Misspelt.{is_word_end}
use Rattle.text_entries.proofs.misspelt.before_word_end.Goals as goal

pub returns-then-is_word_end : goal.returns-then-is_word_end
returns-then-is_word_end c =
    let size = prefix_len_is (λ byte. not (is_word_end byte)) c.args.line.now c.loop-at.at 0 (omega arith)
    (λ k h. ap not (c.loop-at.invariant k h)) (λ h. ap not (sym c.if-is_word_end.ensures)) in
    rw size

pub returns : goal.returns
returns c =
    let size = prefix_len_is (λ byte. not (is_word_end byte)) c.args.line.now c.loop-at.at 0 (omega arith)
    (λ k h. ap not (c.loop-at.invariant k h)) (λ h. absurd (omega arith)) in
    rw size (sym (take_all c.loop-at.at c.args.line.now (omega arith)))
