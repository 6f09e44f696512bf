use Rattle.krl_format.proofs.Layouts.{extension_spelled, extension_spells}
use Rattle.krl_format.proofs.laws.layout.extension_is_these_bytes.Goals as goal

pub returns : goal.returns
returns c = λ content. (extension_spelled content, extension_spells content)
