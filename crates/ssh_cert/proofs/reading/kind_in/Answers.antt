use Rattle.std.proofs.Common.{refl}
use Rattle.ssh_key.proofs.Names.{certified_is}
use Rattle.ssh_cert.specs.Field.{kind_in}
use Rattle.ssh_cert.proofs.reading.kind_in.Goals as goal

pub returns : goal.returns
unfolding kind_in
returns c = rw (c.ok_or.ensures.value, certified_is c.of_cert_name.result c.args.name.now c.of_cert_name.ensures.found c.of_cert_name.ensures.only) refl
