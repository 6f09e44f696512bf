use Rattle.std.proofs.Common.{sym, ap, ◌∙◌}
use Rattle.ssh_key.specs.KeyReading.{key_at}
use Rattle.ssh_key.proofs.Keys.{key_again}
use Rattle.ssh_key.proofs.laws.blob_read_back.Goals as goal

pub returns : goal.returns
returns c = λ blob key is. (sym is.spelled, ap key_at (sym is.spelled) ∙ key_again blob key is)
