-- A file is refused, has keys anywhere in its lines, or is read as one of a name.
use Rattle.std.specs.Prelude.{option_map}
use Rattle.krl_audit.proofs.Files.{told_refused, told_scanned, told_text}
use Rattle.krl_audit.proofs.auditor.Auditor.audit_lines.Goals as goal

pub returns-in-Err-default-clause-told : goal.returns-in-Err-default-clause-told
returns-in-Err-default-clause-told g c =
    rw c.in-Err-default.is-0 (λ answers judges. told_refused answers _ c.args.name.shown.now (option_map (λ path. path.now) c.args.name.read_as) c.in-Err-default.refusal _ _ _ _ _ (c.say_whole.ensures.told answers judges))

pub returns-in-Ok-None-clause-told : goal.returns-in-Ok-None-clause-told
returns-in-Ok-None-clause-told g c =
    rw (c.in-Ok-None.is-0, c.in-Ok-None.is-1) (λ answers judges. told_scanned answers _ c.args.name.shown.now c.in-Ok-None.text.now _ _ _ _ _ (c.audit_scanned.ensures.told answers judges))

pub returns-in-Ok-Some-clause-told : goal.returns-in-Ok-Some-clause-told
returns-in-Ok-Some-clause-told g c =
    rw (c.in-Ok-Some.is-0, c.in-Ok-Some.is-1) (λ answers judges. told_text answers _ c.args.name.shown.now c.in-Ok-Some.read_as.now c.in-Ok-Some.text.now _ _ _ _ _ (c.audit_text.ensures.told answers judges))
