-- The fingerprints of the other facts are left, and their serial numbers are those of intervals.
use Rattle.std.proofs.Common.{All}
use Rattle.krl_entries.specs.Facts.{facts_of}
use Rattle.krl_fingerprints.specs.Facts.{IsFine}
use Rattle.krl_fingerprints.proofs.Printing.{PrintsRest}
use Rattle.krl_fingerprints.proofs.printed.fingerprint_list.Given as goal

abbrev pub invariant-facts : goal.invariant-facts
invariant-facts l = record {
  adds : PrintsRest (facts_of l.fn.list) l.fact-iterator l.initial.prints l.prints;
  fine : All IsFine l.fact-iterator;
}
