use Rattle.span_sets.proofs.Common.{arith, chunks_held, runs_of, runs_of_chunks}
use Rattle.span_sets.proofs.NearSpans.{adds_none, adds_only, bits_some, covered_is_serial}
use Rattle.span_sets.proofs.NearSpans.{some_covered}
use Rattle.span_sets.proofs.ResultFacts.{on_ok}
use Rattle.span_sets.proofs.span_pages.SpanPages.add_spans.Goals as goal

pub add_bits-requires-clause-serials : goal.add_bits-requires-clause-serials
add_bits-requires-clause-serials c = λ s n.
    covered_is_serial c.args.near.now s c.requires.intervals ((c.bits_of.ensures s).0 n)

pub returns-in-empty-clause-runs : goal.returns-in-empty-clause-runs
returns-in-empty-clause-runs c =
    let held = chunks_held c.args.self.now in
    adds_none (runs_of held) c.args.near.now (runs_of_chunks held c.args.self.now.order).0 (omega arith)

pub returns-in-len1-clause-runs : goal.returns-in-len1-clause-runs
returns-in-len1-clause-runs c =
    on_ok c.add_numbers.result _ _ (adds_only (runs_of (chunks_held c.args.self.now)) c.args.near.now (runs_of (chunks_held c.add_numbers.new.self)) (record { lo = 0; hi = 0 }) (omega arith)) c.add_numbers.ensures.runs

pub add_bits-requires-clause-some : goal.add_bits-requires-clause-some
add_bits-requires-clause-some c =
    let long = c.in-len1-up.len_at_least in
    let at = some_covered c.args.near.now (omega arith) c.requires.intervals in
    bits_some _ c.bits_of.result at.0 ((c.bits_of.ensures at.0).1 at.1)
