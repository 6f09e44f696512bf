use Rattle.span_sets.proofs.Common.{arith, Has, in_stretch, subst}
use Rattle.span_sets.proofs.replacement.before.Goals as goal

pub returns-in_default-clause-members : goal.returns-in_default-clause-members
returns-in_default-clause-members c = λ s. (
  λ n. absurd n,
  λ n.
      let at = in_stretch c.in-Some.chunk s (subst (λ o. Has o s) c.in-Some.is n.0) in
      let is = c.lo.ensures in
      let far = c.if-lo-first.false in
      omega (arith, n.1, at.0),
)
