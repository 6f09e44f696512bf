-- The key or the certificate that was read gives the subject, or the first fault is met.
use Rattle.std.proofs.lemmas.Result.{err_from_is_err_and}
use Rattle.ssh_cert.proofs.Subjects.{nothing_asked}
use Rattle.ssh_cert.proofs.subject_of.asked.Goals as goal

pub returns-in_err-any : goal.returns-in_err-any
returns-in_err-any c =
    let p = err_from_is_err_and c.from_residual.result c.from_residual.ensures.1 in
    rw (p.1, p.2) (nothing_asked c.args.blob.now _ c.in_err-any.ensures.fault c.in_err-any.ensures.exact)
