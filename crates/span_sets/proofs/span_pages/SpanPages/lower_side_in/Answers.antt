use Rattle.span_sets.proofs.Common.{◌+◌, ◌-◌, arith, bits_of, chunks_held, inl, inr, IsLowerSide, lo_of}
use Rattle.span_sets.proofs.Common.{None, refl, Some, subst, sym, window_of}
use Rattle.span_sets.proofs.ChunkMembers.{block_ends}
use Rattle.span_sets.proofs.ReplacementMembers.{lower_block}
use Rattle.span_sets.proofs.SpanSides.{lower_further, lower_shared, its_own, mask_from}
use Rattle.span_sets.proofs.span_pages.SpanPages.lower_side_in.Goals as goal

pub returns-in-Some : goal.returns-in-Some
returns-in-Some c =
    let old = chunks_held c.args.self.now in
    let e = c.args.block in
    let w = c.in-Some.more in
    let lo = c.args.lo in
    let has = c.in-Some.ensures.with in
    let over = c.requires.over in
    let from = over.0 in
    let upto = over.1 in
    let ends = block_ends e c.requires.block in
    let begins = ends.0 in
    let last = ends.1 in
    subst (λ n. IsLowerSide old lo (Some w) (n + 1)) (sym c.hi.ensures)
    (lower_shared old lo e w c.args.self.now.order c.requires.met over.0 over.1 (omega arith) has.lo has.hi has.block has.gap
    (λ s below. lower_block e w lo (bits_of e) c.mask.result s c.requires.block (omega arith) over.1 has.members refl c.mask.ensures below))

pub returns-in-None : goal.returns-in-None
returns-in-None c =
    let old = chunks_held c.args.self.now in
    let e = c.args.block in
    let lo = c.args.lo in
    let order = c.args.self.now.order in
    let over = c.requires.over in
    let from = over.0 in
    let upto = over.1 in
    let ends = block_ends e c.requires.block in
    let begins = ends.0 in
    let last = ends.1 in
    lower_further old (lo_of e) lo c.begin_of.result (omega arith)
    (λ s a b. elim (c.with.ensures.full c.in-None.is s a (omega arith)) [
      | inl m ↦ (its_own old e (lo - 1) s order c.requires.met a (omega arith)).0 m
      | inr k ↦ absurd (let at = mask_from (window_of e) lo c.mask.result s c.mask.ensures (omega arith) (omega arith) k in omega arith)
    ])
    (subst (λ n. IsLowerSide old n None c.begin_of.result) c.lo-first.ensures c.begin_of.ensures)
