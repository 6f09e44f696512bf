use Rattle.span_sets.proofs.Common.{◌-◌, ◌<◌, ◌∙◌, ◌≡◌, ◌≤◌, ◌⊎◌, arith, chunks_held, false, hi_of}
use Rattle.span_sets.proofs.Common.{IfSome, inl, inr, is_span, IsChunkFrom, IsLowerSide, lo_of, None}
use Rattle.span_sets.proofs.Common.{subst, sym}
use Rattle.span_sets.proofs.SpanSides.{lower_open, lower_span}
use Rattle.span_sets.proofs.span_pages.SpanPages.begin_of.Goals as goal

pub returns-in-Some : goal.returns-in-Some
returns-in-Some c =
    let old = chunks_held c.args.self.now in
    let set = c.args.self.now in
    let is = subst (IsChunkFrom old (c.args.lo - 1)) c.in-Some.is c.requires.met in
    let begins = c.if-lo.true in
    let lo = c.lo.ensures in
    subst (λ n. IsLowerSide old c.args.lo None n) (sym c.lo-in-Some.ensures)
    (lower_span old c.args.lo c.in-Some.span set.order set.tight is (sym c.is_span.ensures ∙ c.if-is_span.true) (omega arith))

pub returns-in_default : goal.returns-in_default
returns-in_default c =
    let past = c.if-lo.false in
    let lo = c.lo.ensures in
    lower_open (chunks_held c.args.self.now) c.args.lo c.args.met c.args.self.now.order c.requires.met
    (subst (λ m. IfSome m (λ e. (c.args.lo ≤ lo_of e) ⊎ ((is_span e ≡ false) × (hi_of e < c.args.lo)))) (sym c.in-Some.is) (inl (omega arith)))

pub returns-in_default-2 : goal.returns-in_default-2
returns-in_default-2 c =
    let block = sym c.is_span.ensures ∙ c.if-is_span.false in
    let whole = subst (λ m. IfSome m (λ e. is_span e ≡ false → (hi_of e < c.args.lo) ⊎ (c.args.lo ≤ lo_of e))) c.in-Some.is c.requires.whole in
    lower_open (chunks_held c.args.self.now) c.args.lo c.args.met c.args.self.now.order c.requires.met
    (subst (λ m. IfSome m (λ e. (c.args.lo ≤ lo_of e) ⊎ ((is_span e ≡ false) × (hi_of e < c.args.lo)))) (sym c.in-Some.is)
    (elim (whole block) [ inl x ↦ inr (block, x) | inr y ↦ inl y ]))
