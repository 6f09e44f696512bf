use Rattle.std.proofs.Common.{subst}
use Rattle.krl_spec.specs.Spelled.{Counts}
use Rattle.krl_spec.proofs.CountedLaws.{counted_again, counted_found}
use Rattle.krl_spec.proofs.laws.counted_where_spelled.Goals as goal

pub returns : goal.returns
returns c = λ line text. (λ read. subst (Counts line) read (counted_found line), counted_again line text)
