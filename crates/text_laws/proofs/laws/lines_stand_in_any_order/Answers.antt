use Rattle.text_laws.proofs.AnyOrder.{any_order}
use Rattle.text_laws.proofs.laws.lines_stand_in_any_order.Goals as goal

pub returns-clause-faultless : goal.returns-clause-faultless
returns-clause-faultless c names text other same free =
    let both = any_order names text other same free in
    (both.faultless, both.other_faultless)

pub returns-clause-same : goal.returns-clause-same
returns-clause-same c names text other same free = (any_order names text other same free).same
