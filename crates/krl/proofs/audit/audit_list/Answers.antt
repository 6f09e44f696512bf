-- The audit is begun, by the names of a file or of standard input, if any are given.
use Rattle.krl.specs.Audit.{by_file, by_input}
use Rattle.krl.proofs.audit.audit_list.Goals as goal

pub returns-in-None : goal.returns-in-None
returns-in-None c = by_file _ _ _ c.audit_by.ensures

pub returns-in-Some-text : goal.returns-in-Some-text
returns-in-Some-text c = by_input _ _ _ c.audit_by-in-Some-text.ensures

pub returns-in-Ok-open : goal.returns-in-Ok-open
returns-in-Ok-open c = by_file _ _ _ c.audit_by-in-Ok-open.ensures
