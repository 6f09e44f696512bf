use Rattle.span_sets.proofs.Common.{AreSerials, AreTight, ChunksFrom, inl, inr, members_of, subst}
use Rattle.span_sets.proofs.Common.{sym}
use Rattle.span_sets.specs.Storage.{chunks_stored}
use Rattle.span_sets.proofs.TightChunks.{widened_tight}
use Rattle.span_sets.proofs.ChunkQueries.{true_or_false, widened_order, widened_serials}
use Rattle.span_sets.proofs.ChunkQueries.{widened_runs}
use Rattle.span_sets.proofs.span_pages.SpanPages.set_bits.Goals as goal

pub invariant_of-self : goal.invariant_of-self
invariant_of-self c =
    let set = c.args.self.now in
    let old = chunks_stored set.storage in
    let new = chunks_stored c.set_bits.new.self in
    elim (true_or_false c.set_bits.result _ _ c.set_bits.ensures.set c.set_bits.ensures.same) [
      | inl k ↦ record {
        order = widened_order old new c.args.window c.args.bits k set.order;
        serials = widened_serials old new c.args.window c.args.bits k c.requires.window c.requires.serials set.serials;
        tight = widened_tight old new c.args.window c.args.bits k set.tight;
      }
      | inr same ↦ record {
        order = subst (ChunksFrom 0) (sym same) set.order;
        serials = subst (λ l. AreSerials (members_of l)) (sym same) set.serials;
        tight = subst AreTight (sym same) set.tight;
      }
    ]

pub returns-clause-runs : goal.returns-clause-runs
returns-clause-runs c t =
    let set = c.args.self.now in
    widened_runs (chunks_stored set.storage) (chunks_stored c.set_bits.new.self) c.args.window c.args.bits (c.set_bits.ensures.set t) set.order
