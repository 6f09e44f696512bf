use Rattle.span_sets.proofs.Common.{arith, chunks_held, IsChunkFrom, subst}
use Rattle.span_sets.proofs.span_pages.SpanPages.chunk_on.Goals as goal

pub returns-in_default : goal.returns-in_default
returns-in_default c =
    let lower = c.requires.0 in
    let least = c.requires.1.0 in
    let is = subst (IsChunkFrom (chunks_held c.args.self.now) lower) c.in-Some.is c.requires.1.1 in
    let hi = c.hi.ensures in
    let reach = c.if-hi-number.false in
    (is.0, (is.1.0, (is.1.1.0, λ k d h. (let end = is.1.1.1 k d h in omega arith), omega arith)))
