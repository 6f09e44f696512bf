use Rattle.krl_queries.proofs.Common.{◌↔◌, Covers, HoldsSerial, List, Span, subst, sym}
use Rattle.krl_queries.proofs.FirstSerials.{first_as}
use Rattle.krl_queries.proofs.topics.first_serial.Goals as goal

pub returns-in-None : goal.returns-in-None
returns-in-None g c = λ s _ _ h. (c.in-None.ensures.serials s).0 h

pub returns-in-Some : goal.returns-in-Some
returns-in-Some g c =
    let Holds = HoldsSerial c.args.topics.now.sections c.args.authority.now in
    first_as (Covers (g.S.Spans.spans c.spans.result.now)) Holds c.args.lo c.args.hi c.first_from.result
    (λ s. subst (λ (l : List Span). Holds s ↔ Covers l s) (sym c.spans.ensures) (c.in-Some.ensures.serials s)) c.first_from.ensures
