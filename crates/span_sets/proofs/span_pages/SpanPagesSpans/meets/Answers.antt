use Rattle.span_sets.proofs.Common.{chunks_held, runs_of_chunks}
use Rattle.span_sets.proofs.span_pages.SpanPagesSpans.meets.Goals as goal

pub returns-clause-some : goal.returns-clause-some
returns-clause-some c = λ t.
    let set = c.args.self.now in
    let runs = runs_of_chunks (chunks_held set) set.order in
    let some = c.has_some.ensures.some t in
    (some.0, (some.1.0, some.1.1, (runs.1 some.0).1 some.1.2))

pub returns-clause-none : goal.returns-clause-none
returns-clause-none c = λ off s low high n.
    let set = c.args.self.now in
    let runs = runs_of_chunks (chunks_held set) set.order in
    c.has_some.ensures.none off s low high ((runs.1 s).0 n)
