-- The key has the name now.
use Rattle.std.proofs.Common.{ap, ◌∙◌}
use Rattle.text_entries.specs.AuthorityNames.{named_keys}
use Rattle.text_entries.proofs.NamedKeys.{named_insert}
use Rattle.text_entries.proofs.names_by_key.NamesByKey.insert.Goals as goal

pub returns : goal.returns
returns c =
    rw (← c.self.view_is, ← c.in_ok-key.ensures.items, ← c.in_ok-name.ensures.items, ← c.from_vec.ensures)
    (ap named_keys c.in_ok-insert.ensures.entries ∙ named_insert c.self.inside.names.entries c.in_ok-key.key c.from_vec.result)
