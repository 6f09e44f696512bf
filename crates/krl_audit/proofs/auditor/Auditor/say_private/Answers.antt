-- The outcome is that of the public key, or why the file is not read.
use Rattle.std.proofs.Common.{rules, ap}
use Rattle.audit_lines.specs.Outcome.{opened_at, private_outcome}
use Rattle.krl_audit.proofs.Private.{private_gives}
use Rattle.krl_audit.proofs.auditor.Auditor.say_private.Goals as goal

pub returns-in-Ok-Ok-clause-told : goal.returns-in-Ok-Ok-clause-told
returns-in-Ok-Ok-clause-told g c =
    let opened = rw c.in-Ok-Ok.field-0-is at c.in-Ok-Ok.ensures in
    λ answers judges. c.say.ensures.told (private_outcome (opened_at c.args.text.now))
    (private_gives c.checked-outcome.result c.args.text.now c.in-Ok-Ok.field-0-0.blob c.as_slice.result.now _ opened (search rules) (search rules) c.checked-outcome.ensures) answers judges

pub returns-in-Ok-Err-clause-told : goal.returns-in-Ok-Err-clause-told
returns-in-Ok-Err-clause-told g c =
    let refused = rw c.in-Ok-Err.field-0-is at c.in-Ok-Err.ensures in
    λ answers judges. c.say-in-Ok-Err.ensures.told (private_outcome (opened_at c.args.text.now)) (ap private_outcome refused) answers judges
