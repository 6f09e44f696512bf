use Rattle.span_sets.specs.SpanPages.{chunks_held}
use Rattle.span_sets.proofs.ChunkQueries.{asked}
use Rattle.span_sets.proofs.OrderedChunks.{none_below}
use Rattle.span_sets.proofs.span_pages.SpanPages.has_number.Goals as goal

pub returns-in-Some : goal.returns-in-Some
returns-in-Some c =
    let set = c.args.self.now in
    let same = asked (chunks_held set) c.in-Some.chunk c.args.number set.order c.in-Some.ensures in
    (λ t. same.0 (c.has.ensures.0 t), λ n. c.has.ensures.1 (same.1 n))

pub returns-in-None : goal.returns-in-None
returns-in-None c =
    (λ t. cc, λ n. absurd (none_below (chunks_held c.args.self.now) c.args.number c.in-None.ensures n))
