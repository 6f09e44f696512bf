use Rattle.std.proofs.Common.{is_some, refl, sym, ap}
use Rattle.ssh_key.proofs.Names.{certified_is, named_is}
use Rattle.key_text.proofs.LineNames.{plain_or_certificate}
use Rattle.key_text.proofs.type_name.is_type_name.Goals as goal

pub returns-then-is_some : goal.returns-then-is_some
returns-then-is_some c =
    let named = named_is c.of_name.result c.args.word.now c.of_name.ensures.found c.of_name.ensures.only in
    rw (plain_or_certificate c.args.word.now, ap is_some named, sym c.is_some.ensures, c.if-is_some.true) refl

pub returns-else-is_some : goal.returns-else-is_some
returns-else-is_some c =
    let named = named_is c.of_name.result c.args.word.now c.of_name.ensures.found c.of_name.ensures.only in
    let certified = certified_is c.of_cert_name.result c.args.word.now c.of_cert_name.ensures.found c.of_cert_name.ensures.only in
    rw (plain_or_certificate c.args.word.now, ap is_some named, sym c.is_some.ensures, c.if-is_some.false, ap is_some certified) c.is_some-else-is_some.ensures
