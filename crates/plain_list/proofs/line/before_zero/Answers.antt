use Rattle.std.proofs.Common.{◌≡◌, ◌==◌, true, get_or, not, sym, ap, arith}
use Rattle.std.proofs.lemmas.List.{take_all}
use Rattle.std.proofs.lemmas.List.Sums.{prefix_len_is}
use Rattle.plain_list.specs.Line.{before_zero}
use Rattle.plain_list.proofs.line.before_zero.Goals as goal

pub returns-then-byte-eq0 : goal.returns-then-byte-eq0
unfolding before_zero
returns-then-byte-eq0 c =
    let found : (get_or c.args.line.now c.loop-at.at 0 == 0) ≡ true = grind (arith, c.if-byte-eq0.true) in
    let size = prefix_len_is (λ byte. not (byte == 0)) c.args.line.now c.loop-at.at 0 (omega arith) (λ k h. ap not (c.loop-at.invariant k h)) (λ h. ap not found) in
    rw size

pub returns : goal.returns
unfolding before_zero
returns c =
    let size = prefix_len_is (λ byte. not (byte == 0)) c.args.line.now c.loop-at.at 0 (omega arith) (λ k h. ap not (c.loop-at.invariant k h)) (λ h. absurd (omega arith)) in
    rw size (sym (take_all c.loop-at.at c.args.line.now (omega arith)))
