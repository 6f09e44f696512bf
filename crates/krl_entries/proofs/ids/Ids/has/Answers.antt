use Rattle.krl_entries.proofs.Common.{◌∙◌, ap, Contains, false≢true, GoesTo, ids_of, subst, sym}
use Rattle.krl_entries.proofs.OrderedTexts.{not_there}
use Rattle.krl_entries.proofs.ids.Ids.has.Goals as goal

pub returns-in_default : goal.returns-in_default
returns-in_default c =
    let id = c.args.id.now in
    let few = c.in-Few.few.items in
    let same = sym (ap ids_of c.in-Few.is) ∙ c.self.view_is in
    let goes = subst (GoesTo c.in_default.field-0 id) c.as_slice.ensures.value c.in_default.ensures in
    (λ h. absurd (false≢true h), λ there. absurd (not_there c.in_default.field-0 id few goes (subst (λ l. Contains l id) (sym same) there)))
