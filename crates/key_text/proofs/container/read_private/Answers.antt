-- Reading returns only a container, reads each container, and reports the first fault.
use Rattle.std.proofs.Common.{Result, subst, arith}
use Rattle.key_text.specs.ContainerReading.{GivesPrivate, Opened}
use Rattle.key_text.specs.declared.private_fault.PrivateFault.{PrivateFault}
use Rattle.key_text.proofs.PrivateLaws.{is_private, is_reported, private_again}
use Rattle.key_text.proofs.container.read_private.Goals as goal

pub returns-clause-found : goal.returns-clause-found
returns-clause-found c = is_private c.args.text.now c.read_content.result (λ i. omega (arith, c.type_inv.text i)) c.read_content.ensures.exact

pub returns-clause-only : goal.returns-clause-only
returns-clause-only c = λ blob comment is.
    subst (λ (read : Result Opened PrivateFault). GivesPrivate c.read_content.result read) (private_again c.args.text.now blob comment is) c.read_content.ensures.exact

pub returns-clause-fault : goal.returns-clause-fault
returns-clause-fault c = is_reported c.args.text.now c.read_content.result (λ i. omega (arith, c.type_inv.text i)) c.read_content.ensures.exact c.read_content.ensures.armour
