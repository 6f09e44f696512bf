use Rattle.span_sets.proofs.Common.{◌*◌, ◌+◌, arith, cases_lt, chunks_held, inl, inr}
use Rattle.span_sets.proofs.ChunkMembers.{in_or}
use Rattle.span_sets.proofs.SetChunks.{from_has, from_owns}
use Rattle.span_sets.proofs.span_pages.SpanPages.bits_from.Goals as goal

pub loop-found-init : goal.loop-found-init
loop-found-init c =
    let chunks = chunks_held c.args.self.now in
    let first = 64 * c.args.window in
    let part = c.part_in-found.ensures in
    let met = c.args.met in
    record {
      at = part.at.1;
      sound = λ s n. from_has chunks first s met c.requires.met ((part.bits s n.0 n.1).0 n);
      done = λ s a b m. let top = part.at.1 in (part.bits s a (omega arith)).1
          (from_owns chunks first (first + 63) s met c.args.self.now.order c.requires.met a (part.end s b) m);
    }

pub loop-found-preserved : goal.loop-found-preserved
loop-found-preserved c =
    let chunks = chunks_held c.args.self.now in
    let first = 64 * c.args.window in
    let found = c.loop-found.found in
    let part = c.part_in-part in
    let is = c.chunk_from.ensures in
    let up = part.ensures.at in
    record {
      at = up.1;
      sound = λ s n. elim ((in_or first found.bits part.result.bits s).0 n) [
        | inl x ↦ c.loop-found.invariant.sound s x
        | inr y ↦ from_has chunks (first + found.at) s c.chunk_from.result is ((part.ensures.bits s y.0 y.1).0 y)
      ];
      done = λ s a b m. (in_or first found.bits part.result.bits s).1 (elim (cases_lt s (first + found.at)) [
        | inl old ↦ inl (c.loop-found.invariant.done s a old m)
        | inr new ↦ inr ((part.ensures.bits s a (let top = up.1 in omega arith)).1
            (from_owns chunks (first + found.at) (first + 63) s c.chunk_from.result c.args.self.now.order is new (part.ensures.end s b) m))
      ]);
    }
