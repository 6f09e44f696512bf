-- By the law of reading certificates.
use Rattle.std.proofs.Common.{sym, arith}
use Rattle.ssh_cert_tests.proofs.tests.page.is_valid_cert.Goals as goal

pub returns-in-Ok : goal.returns-in-Ok
returns-in-Ok c =
    let spelled = (c.read_where_spelled.ensures c.args.blob.now c.in-Ok.cert (λ i. omega (arith, c.type_inv.blob i))).0 in
    λ valid. (c.in-Ok.cert, (spelled (sym c.in-Ok.ensures.exact), c.valid_at.ensures.0 valid))
