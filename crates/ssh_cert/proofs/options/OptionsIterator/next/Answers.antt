use Rattle.std.proofs.Common.{rules}
use Rattle.ssh_cert.proofs.options.OptionsIterator.next.Goals as goal

pub returns-clause-steps : goal.returns-clause-steps
returns-clause-steps c = search rules steps 600000
