use Rattle.std.proofs.Common.{sym, ap, ◌∙◌}
use Rattle.ssh_key.specs.Kind.{kind_certified}
use Rattle.ssh_key.proofs.Names.{certified-certificate_name, is_certified}
use Rattle.ssh_key.proofs.kind.Kind.of_cert_name.Goals as goal

pub returns-clause-found : goal.returns-clause-found
returns-clause-found c = is_certified c.find_certified.result c.args.name.now c.find_certified.ensures

pub returns-clause-only : goal.returns-clause-only
returns-clause-only c = λ kind e. c.find_certified.ensures ∙ sym (ap kind_certified e) ∙ certified-certificate_name kind
