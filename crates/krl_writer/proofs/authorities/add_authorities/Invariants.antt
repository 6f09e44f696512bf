use Rattle.krl_writer.proofs.AuthoritySections.{Listing}
use Rattle.krl_writer.proofs.authorities.add_authorities.Given as goal

abbrev pub invariant-loop-one : goal.invariant-loop-one
invariant-loop-one g l = Listing l.initial.out.items l.out.items l.fn.authorities l.one-iterator
