use Rattle.span_sets.proofs.Common.{◌*◌, ◌/◌, arith, chunks_held, runs_of}
use Rattle.span_sets.proofs.NearSpans.{bits_some}
use Rattle.span_sets.proofs.SetChunks.{adds_mask, mask_has}
use Rattle.span_sets.proofs.ResultFacts.{on_ok}
use Rattle.span_sets.proofs.span_pages.SpanPages.add_numbers.Goals as goal

pub add_bits-requires-clause-serials : goal.add_bits-requires-clause-serials
add_bits-requires-clause-serials c = λ s n.
    let at = (mask_has c.args.lo c.args.hi c.mask.result s c.if-lo-hi.true c.requires.ordered c.mask.ensures).0 n in
    let some = c.requires.from_one in
    omega (arith, at.0)

pub returns-then-lo-hi-clause-runs : goal.returns-then-lo-hi-clause-runs
returns-then-lo-hi-clause-runs c =
    on_ok c.add_bits.result _ _ (λ is. adds_mask (runs_of (chunks_held c.args.self.now)) (runs_of (chunks_held c.add_bits.new.self)) c.args.lo c.args.hi c.mask.result c.if-lo-hi.true c.requires.ordered c.mask.ensures is) c.add_bits.ensures.runs

pub add_bits-requires-clause-some : goal.add_bits-requires-clause-some
add_bits-requires-clause-some c =
    let lo = c.args.lo in
    let order = c.requires.ordered in
    bits_some (64 * (lo / 64)) c.mask.result lo ((mask_has lo c.args.hi c.mask.result lo c.if-lo-hi.true order c.mask.ensures).1 (omega arith, order))
