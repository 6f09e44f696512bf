use Rattle.krl_queries.proofs.Common.{◌∙◌, arith, Covers, false≢true, sym}
use Rattle.krl_queries.proofs.SkippedSerials.{none_more}
use Rattle.krl_queries.proofs.topics.count_others.Goals as goal

pub loop-at-init : goal.loop-at-init
loop-at-init g c = record { within = omega arith; whole = omega arith; none = λ k fits h. omega (arith, fits) }

pub loop-at-preserved : goal.loop-at-preserved
loop-at-preserved g c =
    let i = c.loop-at.invariant in
    record {
      within = omega arith;
      whole = omega (arith, i.whole);
      none = none_more (Covers (g.S.Spans.spans c.args.set.now)) c.args.serials.now c.loop-at.at c.u64_of.result i.whole c.u64_of.ensures (λ h. false≢true (sym c.if-has.false ∙ c.has.ensures.1 h)) i.none;
    }
