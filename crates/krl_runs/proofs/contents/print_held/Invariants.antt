-- The lines of the facts so far are printed, and the others are left.
use Rattle.krl_runs.proofs.Common.{contents_lines, fact_line, map}
use Rattle.krl_runs.proofs.PrintedContents.{IsSaid}
use Rattle.krl_runs.proofs.contents.print_held.Given as goal

abbrev pub invariant-loop-fact : goal.invariant-loop-fact
invariant-loop-fact g l = IsSaid l.name (contents_lines l.list) (map fact_line l.fact-iterator) l.initial.run.printer l.run.printer
