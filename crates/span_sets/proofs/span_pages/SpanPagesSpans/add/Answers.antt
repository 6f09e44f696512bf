use Rattle.span_sets.proofs.Common.{[], ◌∷◌, ap, arith, chunks_held, inl, inr, length, runs_of}
use Rattle.span_sets.proofs.ChunkQueries.{ok_or_err}
use Rattle.span_sets.proofs.NearSpans.{adds_more, adds_one}
use Rattle.span_sets.proofs.span_pages.SpanPagesSpans.add.Goals as goal

pub returns-clause-one_more : goal.returns-clause-one_more
returns-clause-one_more c =
    let old = chunks_held c.args.self.now in
    let new = chunks_held c.add_numbers.new.self in
    elim (ok_or_err c.add_numbers.result _ _ c.add_numbers.ensures.runs c.add_numbers.ensures.refused) [
      | inl adds ↦ adds_more (runs_of old) (record { lo = c.args.lo; hi = c.args.hi } ∷ []) (runs_of new) (adds_one (runs_of old) (runs_of new) c.args.lo c.args.hi adds)
      | inr same ↦ omega (arith, ap (λ l. length (runs_of l)) same)
    ]
