use Rattle.span_sets.proofs.Common.{[], ◌≡◌, arith, chunks_of, Replaces, subst, sym}
use Rattle.std.proofs.lemmas.Grind.{common_steps}
use Rattle.span_sets.proofs.ChunkQueries.{replaced_none}
use Rattle.span_sets.proofs.pages.put_chunks.Goals as goal

pub returns-then-is_empty-clause-put : goal.returns-then-is_empty-clause-put
returns-then-is_empty-clause-put c =
    let few = c.args.few.now in
    let lo = c.args.lo in
    let hi = c.args.hi in
    let none : c.args.pages.now.items ≡ [] = grind (arith, common_steps) in
    subst (λ l. Replaces (chunks_of l) lo hi few (chunks_of c.put_first.new.pages.items)) (sym none)
    (subst (λ l. Replaces [] lo hi few l) (sym c.in_ok-put_first.ensures.put) (replaced_none few lo hi))
