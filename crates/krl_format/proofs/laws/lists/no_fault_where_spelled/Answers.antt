use Rattle.krl_format.proofs.Lists.{unfaulted_spelled}
use Rattle.krl_format.proofs.SpelledLists.{spelled_unfaulted}
use Rattle.krl_format.proofs.laws.lists.no_fault_where_spelled.Goals as goal

pub returns-clause-spelled : goal.returns-clause-spelled
returns-clause-spelled c = spelled_unfaulted

pub returns-clause-unfaulted : goal.returns-clause-unfaulted
returns-clause-unfaulted c = unfaulted_spelled
