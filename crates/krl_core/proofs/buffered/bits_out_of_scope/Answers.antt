use Rattle.krl_core.proofs.Common.{arith, first_byte}
use Rattle.krl_core.proofs.buffered.bits_out_of_scope.Goals as goal

pub returns-then-is_out_of_scope : goal.returns-then-is_out_of_scope
returns-then-is_out_of_scope g c = λ some. record {
  there = c.halves.invariant.there;
  within = c.halves.invariant.within;
  sign_free = λ last. first_byte c.args.bytes.now 128 c.requires.there (c.is_negative.ensures c.if-is_negative.false last);
  left_is = omega arith;
  fits = omega arith;
  bits_out_of_scope = c.is_out_of_scope.ensures c.if-is_out_of_scope.true;
}
