use Rattle.span_sets.proofs.Common.{◌*◌, ◌+◌, arith, bit_or, BitCovers, chunks_held, few_of, inl}
use Rattle.span_sets.proofs.Common.{inr, le_or_l, or_lt, refl, runs_of, runs_of_chunks}
use Rattle.span_sets.proofs.SetChunks.{Fills, adds_none, bits_both, bits_fill, fills_runs}
use Rattle.span_sets.proofs.SetChunks.{fills_serials, fills_window, adds_window, from_has}
use Rattle.span_sets.proofs.SetChunks.{tail_reaches}
use Rattle.span_sets.proofs.SpanSides.{bits_keep_tight}
use Rattle.span_sets.proofs.ResultFacts.{on_ok}
use Rattle.span_sets.proofs.span_pages.SpanPages.join_bits.Goals as goal

pub chunk_on-requires : goal.chunk_on-requires
chunk_on-requires c = (64 * c.args.window, (omega arith, c.chunk_from-met.ensures))

pub returns-then-holds-clause-runs : goal.returns-then-holds-clause-runs
returns-then-holds-clause-runs c =
    let old = chunks_held c.args.self.now in
    let first = 64 * c.args.window in
    adds_none old (λ s. BitCovers 64 first c.args.bits s) (runs_of_chunks old c.args.self.now.order)
    (λ s k. from_has old first s c.chunk_from-met.result c.chunk_from-met.ensures (c.if-holds.ensures.all refl s k.0 (let b = k.1 in omega arith)))

pub replacement_of_bits-replacement-requires-clause-head : goal.replacement_of_bits-replacement-requires-clause-head
replacement_of_bits-replacement-requires-clause-head c = tail_reaches (chunks_held c.args.self.now) (64 * c.args.window) c.at-head.result c.at-head.ensures

pub replacement_of_bits-replacement-requires-clause-tail : goal.replacement_of_bits-replacement-requires-clause-tail
replacement_of_bits-replacement-requires-clause-tail c = tail_reaches (chunks_held c.args.self.now) (64 * c.args.window + 63) c.at-tail.result c.at-tail.ensures

pub put-requires-clause-serials : goal.put-requires-clause-serials
put-requires-clause-serials c =
    let old = chunks_held c.args.self.now in
    let first = 64 * c.args.window in
    let replacement = c.replacement_of_bits-replacement in
    let more = c.args.bits in
    let small = c.requires.window in
    let fills = bits_fill old (few_of replacement.result.few) first replacement.result.lo replacement.result.hi (bit_or more c.bits_from.result) more c.at-head.result c.at-tail.result c.at-head.ensures c.at-tail.ensures replacement.ensures.lo replacement.ensures.hi
    (λ s a b. bits_both old first c.bits_from.result more s (c.bits_from.ensures s a b)) replacement.ensures.members in
    fills_serials old replacement.result.lo replacement.result.hi (few_of replacement.result.few) (λ s. BitCovers 64 first more s) replacement.ensures.lies fills c.args.self.now.serials
    (λ s k. (c.requires.serials s k, omega (arith, k.1)))

pub put-requires-clause-whole : goal.put-requires-clause-whole
put-requires-clause-whole c =
    let old = chunks_held c.args.self.now in
    let first = 64 * c.args.window in
    let replacement = c.replacement_of_bits-replacement in
    let more = c.args.bits in
    Fills.high (bits_fill old (few_of replacement.result.few) first replacement.result.lo replacement.result.hi (bit_or more c.bits_from.result) more c.at-head.result c.at-tail.result c.at-head.ensures c.at-tail.ensures replacement.ensures.lo replacement.ensures.hi
    (λ s a b. bits_both old first c.bits_from.result more s (c.bits_from.ensures s a b)) replacement.ensures.members)

pub returns-clause-runs : goal.returns-clause-runs
returns-clause-runs c =
    let old = chunks_held c.args.self.now in
    let first = 64 * c.args.window in
    let replacement = c.replacement_of_bits-replacement in
    let more = c.args.bits in
    let fills = bits_fill old (few_of replacement.result.few) first replacement.result.lo replacement.result.hi (bit_or more c.bits_from.result) more c.at-head.result c.at-tail.result c.at-head.ensures c.at-tail.ensures replacement.ensures.lo replacement.ensures.hi
    (λ s a b. bits_both old first c.bits_from.result more s (c.bits_from.ensures s a b)) replacement.ensures.members in
    on_ok c.put.result _ _ (λ r. fills_runs old replacement.result.lo replacement.result.hi (few_of replacement.result.few) (chunks_held c.put.new.self) (λ s. BitCovers 64 first more s) c.args.self.now.order replacement.ensures.lies fills r) c.put.ensures.put

pub add_wide-requires-clause-from_one : goal.add_wide-requires-clause-from_one
add_wide-requires-clause-from_one c =
    let old = chunks_held c.args.self.now in
    let first = 64 * c.args.window in
    elim (fills_window old first c.bits_from.result c.args.bits first c.if-bits.true c.bits_from.ensures (omega arith) (omega arith)) [
      | inl new ↦ c.requires.serials first new
      | inr was ↦ (c.args.self.now.serials first was).0
    ]

pub returns-then-bits-clause-runs : goal.returns-then-bits-clause-runs
returns-then-bits-clause-runs c =
    let old = chunks_held c.args.self.now in
    on_ok c.add_wide.result _ _ (λ r. adds_window old (runs_of (chunks_held c.add_wide.new.self)) (64 * c.args.window) c.bits_from.result c.args.bits c.args.self.now.order c.if-bits.true c.bits_from.ensures r) c.add_wide.ensures.runs

pub replacement_of_bits-replacement-requires-clause-some : goal.replacement_of_bits-replacement-requires-clause-some
replacement_of_bits-replacement-requires-clause-some c = let more = le_or_l c.args.bits c.bits_from.result in let some = c.requires.some in omega arith

pub replacement_of_bits-replacement-requires-clause-gap : goal.replacement_of_bits-replacement-requires-clause-gap
replacement_of_bits-replacement-requires-clause-gap c =
    let fits = or_lt 64 c.args.bits c.bits_from.result (omega arith) (omega arith) in
    let not_all = c.if-bits.false in
    omega arith

pub put-requires-clause-tight : goal.put-requires-clause-tight
put-requires-clause-tight c =
    let old = chunks_held c.args.self.now in
    let replacement = c.replacement_of_bits-replacement in
    let keeps = bits_keep_tight old (few_of replacement.result.few) (64 * c.args.window) c.at-head.result c.at-tail.result c.args.self.now.tight c.at-head.ensures c.at-tail.ensures (omega arith) replacement.ensures.tight replacement.ensures.spans in
    rw (replacement.ensures.lo, replacement.ensures.hi) keeps
