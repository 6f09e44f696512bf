-- The pieces are those of the list, and of what it lost.
use Rattle.text_run.proofs.saying.made_line.Goals as goal

pub returns : goal.returns
returns c =
    rw (
      c.new-line.ensures.items,
      c.as_bytes.ensures.value,
      c.words.ensures,
      c.deref.ensures.value,
      c.in_ok-amounts.ensures,
      c.count.ensures,
      c.deref-2.ensures.value,
      c.in_ok-lost.ensures,
      c.count-2.ensures,
    ) at c.in_ok-put.ensures
