-- The object is nested at most three deep.
use Rattle.krl_audit.specs.Done.{done_object}
use Rattle.krl_audit.proofs.LastObject.{done_object_fits}
use Rattle.audit_text.proofs.Shallow.{shallow}
use Rattle.krl_audit.proofs.laws.last_object_is_read_back.Goals as goal

pub returns : goal.returns
returns c = λ label files counts list are.
    let fit = done_object_fits label files counts list are in c.lines_are_read_back.ensures (done_object label files counts list) fit.0 (shallow (done_object label files counts list) fit)
