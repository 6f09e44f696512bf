use Rattle.span_sets.proofs.Common.{[], ◌∷◌, arith, IsListFrom, option_to_list, subst, sym}
use Rattle.span_sets.proofs.OneChunkSets.{list_one, list_below}
use Rattle.span_sets.proofs.storage.list_of.Goals as goal

pub returns-then-hi-number : goal.returns-then-hi-number
returns-then-hi-number c =
    subst (λ o. IsListFrom (option_to_list o) c.args.number []) (sym c.in-Some.is)
    (list_below c.in-Some.chunk c.args.number (omega arith))

pub returns : goal.returns
returns c =
    let e = c.in-Some.chunk in
    subst (λ o. IsListFrom (option_to_list o) c.args.number c.from_ref.result.now) (sym c.in-Some.is)
    (subst (IsListFrom (e ∷ []) c.args.number) (sym c.from_ref.ensures.value) (list_one e c.args.number (omega arith)))
