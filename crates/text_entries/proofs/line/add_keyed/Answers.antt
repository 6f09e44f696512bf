-- The entry of the key is added, if nothing is before it.
use Rattle.std.proofs.Common.{sym, ◌∙◌}
use Rattle.text_entries.proofs.line.add_keyed.Goals as goal

pub returns : goal.returns
returns g c = rw (sym c.begins_with_key.ensures ∙ c.if-not-begins_with_key.false) c.add_directive.ensures
