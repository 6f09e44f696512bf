-- The line is made of its parts.
use Rattle.list_file.proofs.waiting.waiting_text.Goals as goal

pub returns : goal.returns
returns c = rw (c.new-text.ensures.items, c.as_bytes.ensures.value, c.as_bytes-2.ensures.value) at c.in_ok-put.ensures
