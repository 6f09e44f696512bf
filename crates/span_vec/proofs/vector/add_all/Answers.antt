use Rattle.std.proofs.Common.{inl, inr, arith}
use Rattle.span_vec.proofs.AddedInTurn.{adds_next}
use Rattle.span_sets.proofs.ChunkQueries.{ok_or_err}
use Rattle.span_vec.proofs.vector.add_all.Goals as goal

pub loop-span-preserved : goal.loop-span-preserved
loop-span-preserved c =
    let so = c.loop-span.invariant in
    let added = c.add_to.ensures in
    elim (ok_or_err c.add_to.result _ _ added.runs added.full) [
      | inl adds ↦ record {
        adds = adds_next c.args.items.now.items c.loop-span.items.items c.add_to.new.items.items c.args.spans.now c.loop-span.span-index (record { lo = 0; hi = 0 }) (omega arith) so.adds adds;
        serials = λ s n. elim ((adds.1 s).0 n) [
          | inl was ↦ so.serials s was
          | inr here ↦ (omega (arith, here.0, (c.requires.intervals c.loop-span.span-index (record { lo = 0; hi = 0 }) (omega arith)).0), omega (arith, here.1))
        ];
        room = omega (arith, so.room, added.one_more, added.capacity);
      }
      | inr full ↦ absurd (omega (arith, so.room, full))
    ]
