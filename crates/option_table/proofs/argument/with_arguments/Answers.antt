-- Each argument is added in its turn.
use Rattle.std.proofs.Common.{◌∙◌, ap₂, ◌||◌}
use Rattle.option_table.proofs.Reading.{one_more, one_more_rule}
use Rattle.option_table.proofs.argument.with_arguments.Goals as goal

pub loop-argument-preserved : goal.loop-argument-preserved
loop-argument-preserved c =
    let adds = c.in_ok-made.ensures in
    let rule = c.argument_of.ensures.rule in
    let more = one_more c.loop-argument.made c.in_ok-made.made c.argument_of.result _ _ c.loop-argument.invariant.0 c.argument_of.ensures.local rule adds in (
      more ∙ one_more_rule _ c.args.arguments.now c.loop-argument.argument-index _ c.loop-argument-test.true,
      λ local. adds.globals ∙ ap₂ (◌||◌) (c.loop-argument.invariant.1 local) c.argument_of.ensures.local,
    )
