use Rattle.span_sets.proofs.Common.{AreSerials, AreTight, ChunksFrom, few_of, inl, inr, members_of}
use Rattle.span_sets.proofs.Common.{Replaces, subst, sym}
use Rattle.span_sets.specs.Storage.{chunks_stored}
use Rattle.span_sets.proofs.ChunkQueries.{ok_or_err, replaced_rise, replaced_serials}
use Rattle.span_sets.proofs.TightChunks.{replaced_tight}
use Rattle.span_sets.proofs.span_pages.SpanPages.put.Goals as goal

pub invariant_of-self : goal.invariant_of-self
invariant_of-self c =
    let set = c.args.self.now in
    let old = chunks_stored set.storage in
    let new = chunks_stored c.put.new.self in
    let few = few_of c.args.few.now in
    let lo = c.args.lo in
    let hi = c.args.hi in
    elim (ok_or_err c.put.result _ _ c.put.ensures.put c.put.ensures.refused) [
      | inl put ↦
          let r = subst (λ l. Replaces old lo hi l new) c.as_slice.ensures.value put in
          record {
            order = replaced_rise old few new lo hi r c.requires.order.0 set.order c.requires.order.1 c.requires.ends;
            serials = replaced_serials old few new lo hi r set.serials c.requires.serials;
            tight = replaced_tight old few new lo hi r c.requires.order.1 c.requires.ends set.tight c.requires.tight;
          }
      | inr same ↦ record {
        order = subst (ChunksFrom 0) (sym same) set.order;
        serials = subst (λ l. AreSerials (members_of l)) (sym same) set.serials;
        tight = subst AreTight (sym same) set.tight;
      }
    ]
