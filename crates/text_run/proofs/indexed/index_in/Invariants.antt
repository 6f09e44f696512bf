-- The texts so far were indexed, and the others are left.
use Rattle.std.proofs.Common.{drop}
use Rattle.text_run.specs.Making.{day_at}
use Rattle.text_run.proofs.TextsIndexed.{AreIndexed}
use Rattle.text_run.proofs.indexed.index_in.Given as goal

abbrev pub invariant-loop-text : goal.invariant-loop-text
invariant-loop-text l = AreIndexed l.fn.by (day_at l.date) l.texts (drop l.text-index l.texts) l.standing l.index
