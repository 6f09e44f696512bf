use Rattle.std.proofs.Common.{◌∙◌}
use Rattle.krl_plan.proofs.CopiedRuns.{copied_batch}
use Rattle.krl_plan.proofs.copies.copy_batch.Goals as goal

pub returns : goal.returns
returns g c =
    c.truncate.ensures.items ∙ copied_batch (g.S.Spans.spans c.args.set.now) c.clear.new.self.items c.copy_runs.new.runs.items c.args.count c.args.number _ c.clear.ensures.items c.in_ok-copy_runs.ensures
