use Rattle.span_sets.proofs.Common.{ap, arith, chunks_held, inl, inr, length, runs_of}
use Rattle.span_sets.proofs.ChunkQueries.{ok_or_err}
use Rattle.span_sets.proofs.NearSpans.{adds_more}
use Rattle.span_sets.proofs.span_pages.SpanPagesSpans.add_near.Goals as goal

pub returns-clause-as_many_more : goal.returns-clause-as_many_more
returns-clause-as_many_more c =
    let old = chunks_held c.args.self.now in
    let new = chunks_held c.add_spans.new.self in
    elim (ok_or_err c.add_spans.result _ _ c.add_spans.ensures.runs c.add_spans.ensures.refused) [
      | inl adds ↦ adds_more (runs_of old) c.args.near.now (runs_of new) adds
      | inr same ↦ omega (arith, ap (λ l. length (runs_of l)) same)
    ]
