use Rattle.span_sets.proofs.Common.{◌-◌, ◌≤◌, arith, chunks_held, few_of, refl, runs_of_chunks}
use Rattle.span_sets.proofs.SetChunks.{adds_none, fills_runs, fills_serials, from_has}
use Rattle.span_sets.proofs.SpanSides.{ends_fill_at, ends_keep_tight}
use Rattle.span_sets.proofs.ResultFacts.{on_ok}
use Rattle.span_sets.proofs.span_pages.SpanPages.add_wide.Goals as goal

pub returns-then-holds-clause-runs : goal.returns-then-holds-clause-runs
returns-then-holds-clause-runs c =
    let old = chunks_held c.args.self.now in
    adds_none old (λ s. (c.args.lo ≤ s) × (s ≤ c.args.hi)) (runs_of_chunks old c.args.self.now.order)
    (λ s k. from_has old (c.args.lo - 1) s c.chunk_from-met.result c.chunk_from-met.ensures (c.if-holds.ensures.all refl s k.0 k.1))

pub chunk_on-requires : goal.chunk_on-requires
chunk_on-requires c =
    let next = c.saturating_add-next.ensures in
    let order = c.requires.ordered in
    (c.args.lo - 1, (omega arith, c.chunk_from-met.ensures))

pub put-requires-clause-serials : goal.put-requires-clause-serials
put-requires-clause-serials c =
    let old = chunks_held c.args.self.now in
    let replacement = c.replacement_of_span-replacement in
    let some = c.requires.from_one in
    fills_serials old replacement.result.lo replacement.result.hi (few_of replacement.result.few) (λ s. (c.args.lo ≤ s) × (s ≤ c.args.hi)) replacement.ensures.lies
    (ends_fill_at old (few_of replacement.result.few) c.args.lo c.args.hi replacement.result.lo replacement.result.hi c.lower_side-lower.result.at c.upper_side-upper.result.at c.lower_side-lower.result.block c.upper_side-upper.result.block c.lower_side-lower.ensures c.upper_side-upper.ensures c.requires.ordered c.requires.windows replacement.ensures.lo replacement.ensures.hi replacement.ensures.members)
    c.args.self.now.serials (λ s k. (omega (arith, k.0), omega (arith, k.1)))

pub put-requires-clause-tight : goal.put-requires-clause-tight
put-requires-clause-tight c =
    let old = chunks_held c.args.self.now in
    let replacement = c.replacement_of_span-replacement in
    let few = few_of replacement.result.few in
    let keeps = ends_keep_tight old few c.args.lo c.args.hi c.lower_side-lower.result.at c.upper_side-upper.result.at c.lower_side-lower.result.block c.upper_side-upper.result.block c.lower_side-lower.ensures c.upper_side-upper.ensures replacement.ensures.tight replacement.ensures.spans in
    rw (replacement.ensures.lo, replacement.ensures.hi) keeps

pub returns-clause-runs : goal.returns-clause-runs
returns-clause-runs c =
    let old = chunks_held c.args.self.now in
    let replacement = c.replacement_of_span-replacement in
    let few = few_of replacement.result.few in
    let fills = ends_fill_at old few c.args.lo c.args.hi replacement.result.lo replacement.result.hi c.lower_side-lower.result.at c.upper_side-upper.result.at c.lower_side-lower.result.block c.upper_side-upper.result.block c.lower_side-lower.ensures c.upper_side-upper.ensures c.requires.ordered c.requires.windows replacement.ensures.lo replacement.ensures.hi replacement.ensures.members in
    on_ok c.put.result _ _ (λ r. fills_runs old replacement.result.lo replacement.result.hi few (chunks_held c.put.new.self) (λ s. (c.args.lo ≤ s) × (s ≤ c.args.hi)) c.args.self.now.order replacement.ensures.lies fills r) c.put.ensures.put
