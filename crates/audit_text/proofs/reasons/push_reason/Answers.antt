use Rattle.audit_text.proofs.reasons.push_reason.Goals as goal

pub returns-in-KeyIdOfAll-Some : goal.returns-in-KeyIdOfAll-Some
returns-in-KeyIdOfAll-Some c =
    let in_all = c.in-KeyIdOfAll-Some in
    rw (← c.subject.view_is, in_all.is-0, in_all.is-1, ← c.cert-in-KeyIdOfAll-Some.view_is) c.put-in-KeyIdOfAll-Some.ensures
