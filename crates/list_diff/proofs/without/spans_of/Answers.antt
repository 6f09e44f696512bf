-- The section that the old revocations have.
use Rattle.list_diff.proofs.Common.{◌↔◌, Covers, HoldsSerial, List, Span, subst, sym}
use Rattle.list_diff.proofs.without.spans_of.Goals as goal

pub returns-in-Some : goal.returns-in-Some
returns-in-Some g c = λ s. subst (λ (l : List Span). HoldsSerial c.args.old.now.sections c.args.authority.now s ↔ Covers l s) (sym c.spans.ensures) (c.in-Some.ensures.serials s)
