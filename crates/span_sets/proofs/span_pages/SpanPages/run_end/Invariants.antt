use Rattle.span_sets.proofs.Common.{◌-◌, chunks_held, GoesOn, members_of}
use Rattle.span_sets.proofs.span_pages.SpanPages.run_end.Given as goal

abbrev pub invariant-loop-member : goal.invariant-loop-member
invariant-loop-member l = GoesOn (members_of (chunks_held l.self)) l.fn.member l.from

abbrev pub decreases-loop-member : goal.decreases-loop-member
decreases-loop-member l = 18446744073709551616 - l.from
