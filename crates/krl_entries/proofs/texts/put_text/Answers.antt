use Rattle.krl_entries.proofs.Common.{bytes_of, Puts, subst, texts_of}
use Rattle.krl_entries.proofs.Sets.{read_puts}
use Rattle.krl_entries.proofs.texts.put_text.Goals as goal

pub returns-clause-ok : goal.returns-clause-ok
returns-clause-ok c =
    let old = c.args.set.now.keys in
    let new = c.insert.new.self.keys in
    subst (λ text. Puts (texts_of old) text (texts_of new)) c.in_ok-from_slice.ensures.items
    (read_puts bytes_of c.in_ok-from_slice.field-0 old new c.in_ok-insert.ensures.keys c.insert.ensures.ordered)
