use Rattle.krl_format.proofs.Layouts.{signature_spelled, signature_spells}
use Rattle.krl_format.proofs.laws.layout.signature_is_these_bytes.Goals as goal

pub returns : goal.returns
returns c = λ content. (signature_spelled content, signature_spells content)
