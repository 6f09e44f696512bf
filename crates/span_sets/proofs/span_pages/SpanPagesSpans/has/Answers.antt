use Rattle.span_sets.proofs.Common.{chunks_held, runs_of_chunks}
use Rattle.span_sets.proofs.span_pages.SpanPagesSpans.has.Goals as goal

pub returns : goal.returns
returns c =
    let set = c.args.self.now in
    let runs = runs_of_chunks (chunks_held set) set.order in
    let same = c.has_number.ensures in
    (λ t. (runs.1 c.args.serial).1 (same.0 t), λ n. same.1 ((runs.1 c.args.serial).0 n))
