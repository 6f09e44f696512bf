-- Each finding is its text.
use Rattle.list_conditions.proofs.text.FindingPrinted.push_to.Goals as goal

pub returns-in-Version : goal.returns-in-Version
returns-in-Version c = rw c.in-Version.is c.put-in-Version.ensures

pub returns-in-Slow : goal.returns-in-Slow
returns-in-Slow c = rw c.in-Slow.is c.put-in-Slow.ensures
