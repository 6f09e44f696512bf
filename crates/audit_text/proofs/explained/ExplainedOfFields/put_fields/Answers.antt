-- The lines and the reasons are those of the explanation.
use Rattle.audit_text.proofs.explained.ExplainedOfFields.put_fields.Goals as goal

pub returns : goal.returns
returns c =
    let put = rw c.as_slice.ensures.value at (rw c.name_in-authority.ensures at c.put_fields.ensures) in
    rw c.in-Some.is put
