use Rattle.span_sets.proofs.Common.{◌+◌, ◌-◌, ◌^◌, arith, bits_of, chunks_held, hi_of, inl, inr}
use Rattle.span_sets.proofs.Common.{IsUpperSide, min, None, refl, subst, window_of}
use Rattle.span_sets.proofs.ChunkMembers.{block_ends}
use Rattle.span_sets.proofs.ReplacementMembers.{upper_block}
use Rattle.span_sets.proofs.SpanSides.{upper_further, upper_shared, its_own, mask_upto}
use Rattle.span_sets.proofs.span_pages.SpanPages.upper_side_in.Goals as goal

pub returns-in-Some : goal.returns-in-Some
returns-in-Some c =
    let old = chunks_held c.args.self.now in
    let e = c.args.block in
    let w = c.in-Some.more in
    let hi = c.args.hi in
    let has = c.in-Some.ensures.with in
    let over = c.requires.over in
    let from = over.0 in
    let upto = over.1 in
    let past = c.requires.past in
    let ends = block_ends e c.requires.block in
    let begins = ends.0 in
    let last = ends.1 in
    let lo = c.lo.ensures in
    upper_shared old hi (min (hi + 1) (2 ^ 64 - 1)) (c.lo.result - 1) e w c.args.self.now.order c.requires.met over.0 (omega arith) (omega arith) (omega arith) has.lo has.hi has.block has.gap
    (λ s above. upper_block e w hi (bits_of e) c.mask.result s c.requires.block over.0 (omega arith) has.members refl c.mask.ensures above)

pub returns-in-None : goal.returns-in-None
returns-in-None c =
    let old = chunks_held c.args.self.now in
    let e = c.args.block in
    let hi = c.args.hi in
    let order = c.args.self.now.order in
    let over = c.requires.over in
    let from = over.0 in
    let upto = over.1 in
    let ends = block_ends e c.requires.block in
    let begins = ends.0 in
    let last = ends.1 in
    upper_further old (hi_of e) hi c.end_of.result (omega arith)
    (λ s a b. elim (c.with.ensures.full c.in-None.is s (omega arith) b) [
      | inl m ↦ (its_own old e (min (hi + 1) (2 ^ 64 - 1)) s order c.requires.met (omega arith) b).0 m
      | inr k ↦ absurd (let at = mask_upto (window_of e) hi c.mask.result s c.mask.ensures (omega arith) (omega arith) k in omega arith)
    ])
    (subst (λ n. IsUpperSide old n None c.end_of.result) c.hi-last.ensures c.end_of.ensures)
