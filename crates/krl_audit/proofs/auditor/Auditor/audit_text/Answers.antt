-- The file begins with a private key, or it does not.
use Rattle.std.proofs.Common.{sym, ◌∙◌}
use Rattle.krl_audit.proofs.auditor.Auditor.audit_text.Goals as goal

pub returns-then-is_container-clause-told : goal.returns-then-is_container-clause-told
returns-then-is_container-clause-told g c =
    let begins = sym c.is_container.ensures ∙ c.if-is_container.true in
    rw begins (λ answers judges. c.audit_private.ensures.told answers judges)

pub returns-else-is_container-clause-told : goal.returns-else-is_container-clause-told
returns-else-is_container-clause-told g c =
    let begins = sym c.is_container.ensures ∙ c.if-is_container.false in
    rw begins (λ answers judges. c.audit_plain.ensures.told answers judges)
