use Rattle.std.proofs.Common.{◌-◌, arith, length, sym}
use Rattle.krl_plan.proofs.GroupTexts.{reach-get}
use Rattle.krl_plan.proofs.Reach.{first_below}
use Rattle.krl_plan.proofs.ZeroSpan.{zero_span}
use Rattle.krl_plan.proofs.group_text.reach_of.Goals as goal

pub overflow_sub-result-2 : goal.overflow_sub-result-2
overflow_sub-result-2 c = first_below c.args.runs.now (length c.args.runs.now - 1) zero_span c.requires.rising (omega arith)

pub returns : goal.returns
returns c = sym (reach-get c.args.runs.now zero_span c.requires.some)
