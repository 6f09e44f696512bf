use Rattle.krl_spec.proofs.NumberLaws.{number_again, number_found}
use Rattle.krl_spec.proofs.laws.number_where_spelled.Goals as goal

pub returns : goal.returns
returns c = λ text n. (number_found text n, number_again text n)
