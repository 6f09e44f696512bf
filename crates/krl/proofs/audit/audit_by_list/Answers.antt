-- The list is given, or is that of the texts, which are those of the task.
use Rattle.std.proofs.Common.{refl}
use Rattle.krl.specs.Audit.{by_list}
use Rattle.krl.proofs.audit.audit_by_list.Goals as goal

pub returns : goal.returns
returns c =
    by_list _ _ refl refl
    (record {
      date = c.in-Ok-date_of.date;
      texts = c.in-Ok.texts.items;
      named = rw c.as_slice.ensures.value at c.in-Ok.ensures;
      indexed = rw c.as_ref.ensures.value (rw c.as_slice-3.ensures.value at c.in-Ok-index_of.ensures.indexed);
      made = rw c.as_slice-4.ensures.value at c.in-Ok-asked_list.ensures.list;
    })
    c.audit_list.ensures
