use Rattle.krl_queries.proofs.Common.{Covers, List, serial_at, Span, subst, sym}
use Rattle.krl_queries.proofs.topics.count_skipped.Goals as goal

pub returns-in-None-clause-none : goal.returns-in-None-clause-none
returns-in-None-clause-none g c = λ k _ h. (c.in-None.ensures.serials (serial_at c.args.serials.now k)).0 h

pub returns-in-Some-clause-none : goal.returns-in-Some-clause-none
returns-in-Some-clause-none g c = λ k fits h.
    let s = serial_at c.args.serials.now k in
    c.count_others.ensures.none k fits (subst (λ (l : List Span). Covers l s) (sym c.spans.ensures) ((c.in-Some.ensures.serials s).0 h))
