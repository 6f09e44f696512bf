use Rattle.krl_spec.specs.Directive.{order}
use Rattle.krl_spec.proofs.OrderLaws.{order_again, order_found}
use Rattle.krl_spec.proofs.laws.order_where_spelled.Goals as goal

pub returns : goal.returns
returns c = λ text directive given. (order_found text (order given directive), order_again text directive given)
