use Rattle.krl_plan.proofs.Common.{◌++◌, drop, IsRuns, Knows, List, Span}
use Rattle.krl_plan.proofs.table.Table.add_all.Given as goal

abbrev pub invariant-loop-i : goal.invariant-loop-i
invariant-loop-i l = (runs : List Span) → IsRuns (l.more ++ runs) → Knows l.initial.self runs → Knows l.self (drop l.i l.more ++ runs)
