use Rattle.ssh_cert.proofs.StringLists.{next_read, progress}
use Rattle.ssh_cert.proofs.strings.StringsIterator.next.Goals as goal

pub invariant_of-self : goal.invariant_of-self
invariant_of-self c = (next_read c.self.inside.left c.string.new.self c.string.result c.ok.result c.self.invariant c.string.ensures.exact c.ok.ensures.value).are

pub returns-clause-steps : goal.returns-clause-steps
returns-clause-steps c =
    let read = next_read c.self.inside.left c.string.new.self c.string.result c.ok.result c.self.invariant c.string.ensures.exact c.ok.ensures.value in
    rw (← c.self.view_is) read.yields

pub returns-clause-goes : goal.returns-clause-goes
returns-clause-goes c =
    let read = next_read c.self.inside.left c.string.new.self c.string.result c.ok.result c.self.invariant c.string.ensures.exact c.ok.ensures.value in
    rw (← c.self.view_is) (progress _ _ c.ok.result read.yields)
