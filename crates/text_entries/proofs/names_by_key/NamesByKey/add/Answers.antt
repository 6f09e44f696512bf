-- A key without a name gets this one.
use Rattle.std.proofs.Common.{◌≡◌, Some, None, refl, sym, ◌∙◌}
use Rattle.base64.proofs.Decoding.{OnOk_implies}
use Rattle.text_entries.specs.AuthorityNames.{key_named}
use Rattle.text_entries.proofs.KeyNames.{known, unknown}
use Rattle.text_entries.proofs.NamedKeys.{named_lookup}
use Rattle.text_entries.proofs.names_by_key.NamesByKey.add.Goals as goal

pub returns-in-Some : goal.returns-in-Some
returns-in-Some c =
    let found = sym (named_lookup c.args.key.now c.self.inside.names.entries) ∙ sym c.get.ensures.value in
    let has : key_named c.args.self.now c.args.key.now ≡ Some c.in-Some.field-0.now = rw (← c.self.view_is, found, c.in-Some.is) refl in
    λ other. known c.args.self.now c.args.key.now c.args.name.now other c.in-Some.field-0.now has

pub returns-in-None : goal.returns-in-None
returns-in-None c =
    let found = sym (named_lookup c.args.key.now c.self.inside.names.entries) ∙ sym c.get.ensures.value in
    let none : key_named c.args.self.now c.args.key.now ≡ None = rw (← c.self.view_is, found, c.in-None.is) refl in
    λ other. OnOk_implies c.insert.result _ _ (λ made. rw made (unknown c.args.self.now c.args.key.now c.args.name.now other none)) c.insert.ensures
