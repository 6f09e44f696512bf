-- The key that has the name is found, or the name is unknown.
use Rattle.std.proofs.Common.{refl, sym, ◌∙◌}
use Rattle.text_entries.proofs.NamedKeys.{named_lookup}
use Rattle.text_entries.proofs.authority_names.AuthorityNames.authority.Goals as goal

pub returns-in-Some : goal.returns-in-Some
returns-in-Some c =
    let one = sym c.is_all.ensures ∙ c.if-is_all.false in
    let found = sym (named_lookup c.args.name.now c.self.inside.keys.entries) ∙ sym c.get.ensures.value in
    rw (← c.self.view_is, one, c.as_slice.ensures, found, c.in-Some.is) refl

pub returns-in-None : goal.returns-in-None
returns-in-None c =
    let one = sym c.is_all.ensures ∙ c.if-is_all.false in
    let none = sym (named_lookup c.args.name.now c.self.inside.keys.entries) ∙ sym c.get.ensures.value in
    rw (← c.self.view_is, one, none, c.in-None.is) (refl, refl)
