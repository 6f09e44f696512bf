use Rattle.std.proofs.Common.{sym}
use Rattle.krl_core.proofs.BufferedFields.{some_after, some_none, some_ok}
use Rattle.krl_core.proofs.buffered.read_buffered.Goals as goal

pub fields-init : goal.fields-init
fields-init g c = some_none _ _ _ c.requires

pub returns-then-is_err : goal.returns-then-is_err
returns-then-is_err g c = some_after _ _ _ _ _ _ _ _ _ _ c.fields.invariant c.read_front-count.ensures

pub fields-preserved : goal.fields-preserved
fields-preserved g c = some_ok _ _ _ _ _ _ _ (sym c.if-is_err.ensures.value) (some_after _ _ _ _ _ _ _ _ _ _ c.fields.invariant c.read_front-count.ensures)
