-- The first string decides how a blob is read.
use Rattle.std.proofs.Common.{sym, ◌∙◌, arith}
use Rattle.ssh_cert.proofs.Subjects.{no_certificate_read, no_key_read, read_certified, read_plain, subject_refused}
use Rattle.ssh_cert.proofs.any_key.read_any.Goals as goal

pub returns-in-Ok-clause-found : goal.returns-in-Ok-clause-found
returns-in-Ok-clause-found c =
    read_certified c.args.blob.now c.in-Ok.cert (λ i. omega (arith, c.type_inv.blob i)) (sym c.is_certificate.ensures ∙ c.if-is_certificate.true) (sym c.in-Ok.ensures.exact)

pub returns-in-Err-clause-exact : goal.returns-in-Err-clause-exact
returns-in-Err-clause-exact c =
    no_certificate_read c.args.blob.now c.in-Err.fault (sym c.is_certificate.ensures ∙ c.if-is_certificate.true) (sym c.in-Err.ensures.exact)

pub returns-in-Err-clause-fault : goal.returns-in-Err-clause-fault
returns-in-Err-clause-fault c = subject_refused c.args.blob.now _ (λ i. omega (arith, c.type_inv.blob i)) (returns-in-Err-clause-exact c)

pub returns-in-Ok-read_key-clause-found : goal.returns-in-Ok-read_key-clause-found
returns-in-Ok-read_key-clause-found c =
    read_plain c.args.blob.now c.in-Ok-read_key.key (λ i. omega (arith, c.type_inv.blob i)) (sym c.is_certificate.ensures ∙ c.if-is_certificate.false) (sym c.in-Ok-read_key.ensures.exact)

pub returns-in-Err-read_key-clause-exact : goal.returns-in-Err-read_key-clause-exact
returns-in-Err-read_key-clause-exact c =
    no_key_read c.args.blob.now c.in-Err-read_key.fault (sym c.is_certificate.ensures ∙ c.if-is_certificate.false) (sym c.in-Err-read_key.ensures.exact)

pub returns-in-Err-read_key-clause-fault : goal.returns-in-Err-read_key-clause-fault
returns-in-Err-read_key-clause-fault c = subject_refused c.args.blob.now _ (λ i. omega (arith, c.type_inv.blob i)) (returns-in-Err-read_key-clause-exact c)
