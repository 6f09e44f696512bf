use Rattle.span_sets.proofs.Common.{◌*◌, ◌+◌, ◌∙◌, ◌≡◌, ap, arith, bit_or, false, is_span, lt-leb}
use Rattle.span_sets.proofs.Common.{or_lt, singles, sym, window_of}
use Rattle.span_sets.proofs.ReplacementMembers.{all_with, block_gap}
use Rattle.span_sets.proofs.ChunkMembers.{block_ends}
use Rattle.span_sets.proofs.chunk.Chunk.with.Goals as goal

pub returns-clause-with : goal.returns-clause-with
returns-clause-with c =
    let e = c.args.self in
    let w = c.block.result in
    let block : is_span e ≡ false = lt-leb e.a e.b c.requires in
    let ends = block_ends e block in
    let bits = bit_or c.bits.result c.args.bits in
    let lo = c.block.ensures.lo ∙ ap (λ k. 64 * k) c.window.ensures ∙ sym ends.0 in
    let hi = c.block.ensures.hi ∙ ap (λ k. 64 * k + 63) c.window.ensures ∙ sym ends.1 in
    let fits = or_lt 64 c.bits.result c.args.bits (omega arith) (omega arith) in
    let not_all = c.if-bits.false in
    record {
      lo = lo;
      hi = hi;
      block = c.block.ensures.block;
      members = c.block.ensures.members ∙ ap (λ k. singles 64 (64 * k) bits) c.window.ensures ∙ ap (λ b. singles 64 (64 * window_of e) (bit_or b c.args.bits)) c.bits.ensures;
      gap = block_gap w (64 * c.window.result) bits c.block.ensures.members c.block.ensures.lo c.block.ensures.hi (omega arith);
    }

pub returns-then-bits-clause-full : goal.returns-then-bits-clause-full
returns-then-bits-clause-full c none s from to =
    let e = c.args.self in
    all_with e c.bits.result c.args.bits s (lt-leb e.a e.b c.requires) c.bits.ensures c.if-bits.true from to
