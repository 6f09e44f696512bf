use Rattle.std.proofs.Common.{sym, ap, ◌∙◌}
use Rattle.ssh_key.specs.Kind.{kind_named}
use Rattle.ssh_key.proofs.Names.{is_named, kind_named-type_name}
use Rattle.ssh_key.proofs.kind.Kind.of_name.Goals as goal

pub returns-clause-found : goal.returns-clause-found
returns-clause-found c = is_named c.find.result c.args.name.now c.find.ensures

pub returns-clause-only : goal.returns-clause-only
returns-clause-only c = λ kind e. c.find.ensures ∙ sym (ap kind_named e) ∙ kind_named-type_name kind
