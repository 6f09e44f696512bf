use Rattle.krl_format.proofs.LongestFronts.{each_is_judged}
use Rattle.krl_format.proofs.laws.lists.each_text_is_judged.Goals as goal

pub returns : goal.returns
returns c = each_is_judged
