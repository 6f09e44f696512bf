use Rattle.std.proofs.Common.{arith, leb-false, leb-true}
use Rattle.span_sets.proofs.span_pages.SpanPages.has_some.Goals as goal

pub returns-in-Some-clause-some : goal.returns-in-Some-clause-some
returns-in-Some-clause-some c = λ t.
    let f = c.in-Some.ensures in (c.in-Some.first, (f.0, leb-true _ _ t, f.1))

pub returns-in-Some-clause-none : goal.returns-in-Some-clause-none
returns-in-Some-clause-none c = λ off s low high n.
    let f = c.in-Some.ensures in f.2 s low (omega (arith, leb-false _ _ off)) n

pub returns-in-None-clause-none : goal.returns-in-None-clause-none
returns-in-None-clause-none c = λ off s low high n. c.in-None.ensures s low n
