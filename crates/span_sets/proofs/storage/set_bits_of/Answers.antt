use Rattle.span_sets.proofs.Common.{[], ◌∷◌, option_to_list, subst, sym, BlockWidened}
use Rattle.span_sets.proofs.OneChunkSets.{one_widened}
use Rattle.span_sets.proofs.storage.set_bits_of.Goals as goal

pub returns-clause-set : goal.returns-clause-set
returns-clause-set c t =
    let is = c.in-Some-widened.wider in
    subst (λ o. BlockWidened (option_to_list o) c.args.window c.args.bits (is ∷ [])) (sym c.in-Some.is)
    (one_widened c.in-Some.chunk is c.args.window c.args.bits c.in-Some-widened.ensures)
