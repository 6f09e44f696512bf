use Rattle.ssh_key.proofs.Names.{named_is}
use Rattle.ssh_key.proofs.Keys.{kind_read}
use Rattle.ssh_key.proofs.key.read_kind.Goals as goal

pub returns : goal.returns
returns c =
    kind_read c.args.cursor.now c.in_ok-name.name.now c.string.new.self c.of_name.result c.ok_or.result c.in_ok-name.ensures.exact
    (named_is c.of_name.result c.in_ok-name.name.now c.of_name.ensures.found c.of_name.ensures.only)
    c.ok_or.ensures.value
