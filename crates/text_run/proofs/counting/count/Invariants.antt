-- The facts so far are counted, and the others are left.
use Rattle.std.proofs.Common.{◌≡◌, map}
use Rattle.list_text.specs.Counts.{counted_all}
use Rattle.list_text.specs.Facts.{HeldFact}
use Rattle.text_run.specs.Making.{counts_of}
use Rattle.text_run.proofs.counting.count.Given as goal

abbrev pub invariant-loop-fact : goal.invariant-loop-fact
invariant-loop-fact g l = counted_all l.counts (map HeldFact l.fact-iterator) ≡ counts_of l.held
