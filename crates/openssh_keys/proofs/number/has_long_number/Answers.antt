use Rattle.std.proofs.Common.{◌∙◌, sym, arith}
use Rattle.openssh_keys.proofs.Numbers.{passed}
use Rattle.openssh_keys.proofs.number.has_long_number.Goals as goal

pub loop-i-preserved : goal.loop-i-preserved
loop-i-preserved c =
    sym (passed c.args.count c.loop-i.i c.loop-i.cursor c.in-Ok.number.now c.mpint.new.self (omega arith) c.in-Ok.ensures.exact (omega (arith, c.if-number-gt-MOST.false)))
    ∙ c.loop-i.invariant
