use Rattle.ssh_key.proofs.Keys.{public_again, public_found}
use Rattle.ssh_key.proofs.laws.fields_read_where_spelled.Goals as goal

pub returns : goal.returns
returns c = λ kind bytes rest key fits. (public_found kind bytes (key, rest) fits, λ (same, begins). public_again kind bytes rest key same begins)
