-- The names of the certificate.
use Rattle.audit_text.proofs.objects.CertOfFields.put_fields.Goals as goal

pub returns : goal.returns
returns c =
    let put = rw c.from.ensures at c.put_fields.ensures in
    rw (c.in-Some.is, ← c.cert.view_is) put
