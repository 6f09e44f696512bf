-- The name of the key is found, or it has none.
use Rattle.std.proofs.Common.{refl, sym, ◌∙◌}
use Rattle.text_entries.proofs.NamedKeys.{named_lookup}
use Rattle.text_entries.proofs.names_by_key.NamesByKey.name.Goals as goal

pub returns-in-Some : goal.returns-in-Some
returns-in-Some c =
    let found = sym (named_lookup c.args.key.now c.self.inside.names.entries) ∙ sym c.get.ensures.value in
    rw (← c.self.view_is, found, c.in-Some.is, c.as_slice.ensures) refl

pub returns-in-None : goal.returns-in-None
returns-in-None c =
    let found = sym (named_lookup c.args.key.now c.self.inside.names.entries) ∙ sym c.get.ensures.value in
    rw (← c.self.view_is, found, c.in-None.is) refl
