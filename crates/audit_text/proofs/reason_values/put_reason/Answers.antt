use Rattle.audit_text.proofs.reason_values.put_reason.Goals as goal

pub returns-in-Authority-Some : goal.returns-in-Authority-Some
returns-in-Authority-Some c = rw (← c.subject.view_is, c.in-Authority-Some.is-0, c.in-Authority-Some.is-1) c.put_object-in-Authority-Some.ensures

pub returns-in-AuthoritySha1-Some : goal.returns-in-AuthoritySha1-Some
returns-in-AuthoritySha1-Some c = rw (← c.subject.view_is, c.in-AuthoritySha1-Some.is-0, c.in-AuthoritySha1-Some.is-1) c.put_object-in-AuthoritySha1-Some.ensures

pub returns-in-AuthoritySha256-Some : goal.returns-in-AuthoritySha256-Some
returns-in-AuthoritySha256-Some c = rw (← c.subject.view_is, c.in-AuthoritySha256-Some.is-0, c.in-AuthoritySha256-Some.is-1) c.put_object-in-AuthoritySha256-Some.ensures
