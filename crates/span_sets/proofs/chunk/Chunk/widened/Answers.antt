use Rattle.span_sets.proofs.Common.{◌*◌, ◌+◌, ◌↔◌, ◌∙◌, ◌≡◌, ◌⊎◌, ap, BitCovers, Covers, false}
use Rattle.span_sets.proofs.Common.{hi_of, is_span, lo_of, members_in, refl, subst, sym, window_of}
use Rattle.span_sets.proofs.Common.{ℕ}
use Rattle.std.proofs.lemmas.Option.{IfSome_then}
use Rattle.span_sets.proofs.ChunkMembers.{block_ends}
use Rattle.span_sets.proofs.ReplacementMembers.{with_bits}
use Rattle.span_sets.proofs.chunk.Chunk.widened.Goals as goal

pub returns : goal.returns
returns c =
    let chunk = c.args.self in
    let window = c.args.window in
    let block : is_span chunk ≡ false = sym c.is_span.ensures ∙ c.if-is_span.false in
    let same : window_of chunk ≡ window = sym c.window.ensures ∙ c.if-window.false in
    let ends = block_ends chunk block in
    let lo : lo_of chunk ≡ 64 * window = ends.0 ∙ ap (λ w. 64 * w) same in
    let hi : hi_of chunk ≡ 64 * window + 63 = ends.1 ∙ ap (λ w. 64 * w + 63) same in
    IfSome_then c.with.result c.with.ensures.with (λ is has. record {
      block = has.block;
      lo = (lo, has.lo ∙ lo);
      hi = (hi, has.hi ∙ hi);
      more = subst (λ w. (s : ℕ) → Covers (members_in is) s ↔ (Covers (members_in chunk) s ⊎ BitCovers 64 (64 * w) c.args.bits s)) same
          (λ s. with_bits chunk is _ c.args.bits s block has.members refl);
      gap = has.gap;
    })
