use Rattle.krl_format.proofs.Common.{◌∙◌, start, sym}
use Rattle.krl_format.proofs.Fronts.{fronts_compare}
use Rattle.krl_format.proofs.laws.lists.one_front_begins_the_other.Goals as goal

pub returns : goal.returns
returns c = λ text one other state state' rest rest' h k.
    fronts_compare start state state' one other rest rest' h.leads k.leads (sym h.parts ∙ k.parts)
