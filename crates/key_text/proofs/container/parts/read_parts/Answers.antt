-- The fields were read one after the other.
use Rattle.std.proofs.Common.{sym, ◌∙◌}
use Rattle.key_text.proofs.ContainerReads.{parts_read}
use Rattle.key_text.proofs.container.parts.read_parts.Goals as goal

pub returns-clause-read : goal.returns-clause-read
returns-clause-read c =
    let count = rw c.if-count-ne1.false at c.in_ok-count.ensures.exact in
    parts_read _ _ _ _ _ _ _ _ _ _ _ _ _ c.in_ok-cipher.ensures.exact c.in_ok-derivation.ensures.exact c.in_ok-options.ensures.exact (sym c.is_plain.ensures ∙ c.if-not-is_plain.false) count c.in_ok-blob.ensures.exact (sym c.in_ok-key.ensures.exact) c.in_ok-list.ensures.exact
