-- The key has the name now.
use Rattle.std.proofs.Common.{ap, ◌∙◌}
use Rattle.text_entries.specs.AuthorityNames.{named_keys}
use Rattle.text_entries.proofs.NamedKeys.{named_insert}
use Rattle.text_entries.proofs.authority_names.AuthorityNames.add.Goals as goal

pub returns-clause-added : goal.returns-clause-added
returns-clause-added c =
    rw (← c.self.view_is, ← c.in_ok-name.ensures.items)
    (ap named_keys c.in_ok-insert.ensures.entries ∙ named_insert c.self.inside.keys.entries c.in_ok-name.name c.args.key)
