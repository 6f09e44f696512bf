use Rattle.serial_set.specs.Span.{Covers}
use Rattle.span_sets.proofs.Replacements.{replaced_order, replaced_runs}
use Rattle.span_sets.proofs.laws.replaced_adds.Goals as goal

pub returns : goal.returns
returns c old lo hi few new more r k h order rise ends =
    replaced_runs old lo hi few new (λ s. Covers more s) r k order
    (replaced_order old lo hi few new r h order rise ends)
