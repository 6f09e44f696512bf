use Rattle.std.proofs.Common.{rules}
use Rattle.ssh_cert.proofs.validity.valid_at.Goals as goal

pub returns-then-after-moment : goal.returns-then-after-moment
returns-then-after-moment c = search rules steps 300000
