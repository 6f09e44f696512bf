use Rattle.ssh_key.proofs.Names.{certified_is as name_certified}
use Rattle.ssh_cert.proofs.Subjects.{certified_is}
use Rattle.ssh_cert.proofs.any_key.is_certificate.Goals as goal

pub returns-in-Ok : goal.returns-in-Ok
returns-in-Ok c =
    certified_is c.args.blob.now c.new.result c.in-Ok.name.now c.string.new.self c.of_cert_name.result c.is_some.result c.new.ensures c.in-Ok.ensures.exact
    (name_certified c.of_cert_name.result c.in-Ok.name.now c.of_cert_name.ensures.found c.of_cert_name.ensures.only)
    c.is_some.ensures
