use Rattle.key_text.proofs.LineBase64.{base64_passes, base64_some}
use Rattle.key_text.proofs.laws.base64_is_word.Goals as goal

pub returns : goal.returns
returns c = λ blob some. record { some = base64_some blob some; each = base64_passes blob }
