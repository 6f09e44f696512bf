use Rattle.std.proofs.Common.{◌≡◌, List, ℕ, Option, Some, None, is_some, option_map, refl, sym, ap, ◌∙◌}
use Rattle.std.specs.Borrow.{Bor}
use Rattle.key_places.proofs.NameLaws.{name_alone}
use Rattle.key_places.proofs.name.is_type_name.Goals as goal

mapped : (part : Option (Bor (List ℕ))) → is_some (option_map (λ (lent : Bor (List ℕ)). lent.now) part) ≡ is_some part
mapped None = refl
mapped (Some lent) = refl

pub returns : goal.returns
returns c = c.is_some.ensures
    ∙ (sym (mapped c.host_part.result) ∙ (ap is_some c.host_part.ensures ∙ name_alone c.args.word.now c.requires))
