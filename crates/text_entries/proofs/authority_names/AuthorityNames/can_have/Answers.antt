-- The key that has the name is this one, or none has it.
use Rattle.std.proofs.Common.{refl, sym, ◌∙◌}
use Rattle.text_entries.proofs.NamedKeys.{named_lookup}
use Rattle.text_entries.proofs.authority_names.AuthorityNames.can_have.Goals as goal

pub returns-in-Some : goal.returns-in-Some
returns-in-Some c =
    let found = sym (named_lookup c.args.name.now c.self.inside.keys.entries) ∙ sym c.get.ensures.value in
    rw (← c.self.view_is, found, c.in-Some.is, ← c.as_slice.ensures) c.eq.ensures

pub returns-in-None : goal.returns-in-None
returns-in-None c =
    let none = sym (named_lookup c.args.name.now c.self.inside.keys.entries) ∙ sym c.get.ensures.value in
    rw (← c.self.view_is, none, c.in-None.is) refl
