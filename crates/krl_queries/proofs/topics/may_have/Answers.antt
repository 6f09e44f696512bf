use Rattle.krl_queries.proofs.Common.{Covers, List, Span, subst, sym}
use Rattle.krl_queries.proofs.topics.may_have.Goals as goal

pub returns-in-None : goal.returns-in-None
returns-in-None g c = λ _ s _ _ h. (c.in-None.ensures.serials s).0 h

pub returns-in-Some : goal.returns-in-Some
returns-in-Some g c = λ off s low high h.
    c.meets.ensures.none off s low high (subst (λ (l : List Span). Covers l s) (sym c.spans.ensures) ((c.in-Some.ensures.serials s).0 h))
