use Rattle.krl_format.proofs.Layouts.{magic_bytes}
use Rattle.krl_format.proofs.laws.layout.magic_is_these_bytes.Goals as goal

pub returns : goal.returns
returns c = magic_bytes
