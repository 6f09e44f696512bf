use Rattle.span_sets.proofs.Common.{◌+◌, ◌∙◌, ap, arith, chunks_held, hi_of, members_of, piece_of}
use Rattle.span_sets.proofs.TakenRuns.{goes_within, reads_none, reads_on, taken_on, taken_run}
use Rattle.span_sets.proofs.span_pages.SpanPages.take_chunk.Goals as goal

pub returns-in_default : goal.returns-in_default
returns-in_default c =
    let spans = members_of (chunks_held c.args.self.now) in
    let e = c.args.chunk in
    let was = c.loop-chunk.invariant in
    let end = was.1.1.to in (
      hi_of e + 1,
      (
        taken_on spans (piece_of c.loop-chunk.piece) c.args.number was.0 (hi_of e + 1) was.1.0 (omega arith)
            (λ s h l m. reads_none spans e was.0 c.loop-chunk.from s was.1.1 c.in_default.ensures h l m),
        λ t. omega arith,
      ),
    )

pub returns-then-hi : goal.returns-then-hi
returns-then-hi c =
    let spans = members_of (chunks_held c.args.self.now) in
    let e = c.args.chunk in
    let was = c.loop-chunk.invariant in
    let hi = c.last_from-hi.result in (
      hi + 1,
      (
        taken_run spans (piece_of c.loop-chunk.piece) (piece_of c.join.new.self) e c.args.number was.0 c.loop-chunk.from c.in-Some.lo hi
            was.1.0 was.1.1 c.in-Some.ensures c.last_from-hi.ensures.on c.join.ensures,
        λ t. ap (λ n. n + 1) (c.if-hi.true ∙ c.hi.ensures),
      ),
    )

pub overflow_add-from : goal.overflow_add-from
overflow_add-from c =
    let end = goes_within c.args.chunk c.in-Some.lo c.last_from-hi.result c.last_from-hi.ensures.on in
    omega (arith, end, c.hi.ensures, c.if-hi.false)

pub loop-chunk-preserved : goal.loop-chunk-preserved
loop-chunk-preserved c =
    let spans = members_of (chunks_held c.args.self.now) in
    let e = c.args.chunk in
    let was = c.loop-chunk.invariant in
    let hi = c.last_from-hi.result in
    let g = c.last_from-hi.ensures.on in
    let f = c.in-Some.ensures in
    let end = goes_within e c.in-Some.lo hi g in
    let new = taken_run spans (piece_of c.loop-chunk.piece) (piece_of c.join.new.self) e c.args.number was.0 c.loop-chunk.from c.in-Some.lo hi
    was.1.0 was.1.1 f g c.join.ensures in (
      hi + 1,
      (
        new,
        reads_on spans e was.0 c.loop-chunk.from c.in-Some.lo hi was.1.1 f g (omega (arith, end, c.hi.ensures, c.if-hi.false)),
        new.from,
      ),
    )
