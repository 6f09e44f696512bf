use Rattle.std.proofs.Common.{◌≡◌, ◌==◌, true, get_or, not, sym, ap, arith}
use Rattle.std.proofs.lemmas.List.Sums.{prefix_len_is}
use Rattle.krl_spec.proofs.blanks.position_of.Goals as goal

pub returns-then-byte-sought-clause-position : goal.returns-then-byte-sought-clause-position
returns-then-byte-sought-clause-position c =
    let found : (get_or c.args.text.now c.loop-at.at 0 == c.args.sought) ≡ true = grind (arith, c.if-byte-sought.true) in
    sym (prefix_len_is (λ byte. not (byte == c.args.sought)) c.args.text.now c.loop-at.at 0 (omega arith) (λ k h. ap not (c.loop-at.invariant k h)) (λ h. ap not found))

pub returns-clause-position : goal.returns-clause-position
returns-clause-position c =
    let size = prefix_len_is (λ byte. not (byte == c.args.sought)) c.args.text.now c.loop-at.at 0 (omega arith) (λ k h. ap not (c.loop-at.invariant k h)) (λ h. absurd (omega arith)) in
    omega (arith, size)
