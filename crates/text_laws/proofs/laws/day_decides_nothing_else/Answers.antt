use Rattle.text_laws.proofs.Days.{ends_same, may_end, says_same}
use Rattle.text_laws.proofs.laws.day_decides_nothing_else.Goals as goal

pub returns-clause-fault : goal.returns-clause-fault
returns-clause-fault c standing today text = (ends_same standing today text).0

pub returns-clause-stands : goal.returns-clause-stands
returns-clause-stands c standing today text = (ends_same standing today text).1

pub returns-clause-endless : goal.returns-clause-endless
returns-clause-endless c standing today line none = says_same standing today line none

pub returns-clause-ends : goal.returns-clause-ends
returns-clause-ends c standing today line le = may_end standing today line le
