use Rattle.std.proofs.Common.{arith}
use Rattle.ssh_cert.proofs.Subjects.{is_found, is_only, is_reported}
use Rattle.ssh_cert.proofs.subject_of.subject.Goals as goal

pub returns-clause-found : goal.returns-clause-found
returns-clause-found c = is_found c.args.blob.now c.asked.result (λ i. omega (arith, c.type_inv.blob i)) c.asked.ensures

pub returns-clause-only : goal.returns-clause-only
returns-clause-only c = λ asked is. is_only c.args.blob.now c.asked.result asked c.asked.ensures is

pub returns-clause-fault : goal.returns-clause-fault
returns-clause-fault c = is_reported c.args.blob.now c.asked.result (λ i. omega (arith, c.type_inv.blob i)) c.asked.ensures
