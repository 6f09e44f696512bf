use Rattle.span_sets.proofs.Common.{◌+◌, ◌-◌, ◌<◌, ◌^◌, ◌∙◌, ◌≡◌, ◌≤◌, ◌⊎◌, arith, chunks_held}
use Rattle.span_sets.proofs.Common.{false, hi_of, IfSome, inr, is_span, IsUpperSide, IsChunkFrom, lo_of}
use Rattle.span_sets.proofs.Common.{min, None, refl, subst, sym, true}
use Rattle.span_sets.proofs.SpanSides.{upper_open, upper_span}
use Rattle.span_sets.proofs.span_pages.SpanPages.end_of.Goals as goal

pub returns-in-Some : goal.returns-in-Some
returns-in-Some c =
    let old = chunks_held c.args.self.now in
    let set = c.args.self.now in
    let n = min (c.args.hi + 1) (2 ^ 64 - 1) in
    let is = subst (IsChunkFrom old n) c.in-Some.is c.requires.met in
    let begins = c.if-lo-saturating_add.true in
    let lo = c.lo.ensures in
    let next = c.saturating_add.ensures in
    subst (λ m. IsUpperSide old c.args.hi None m) (sym c.hi.ensures)
    (upper_span old c.args.hi n c.in-Some.span set.order set.tight refl is (sym c.is_span.ensures ∙ c.if-is_span.true) (omega arith) (omega arith))

pub returns-in_default : goal.returns-in_default
returns-in_default c =
    let set = c.args.self.now in
    let hi = c.args.hi in
    let past = c.if-lo-saturating_add.false in
    let next = c.saturating_add.ensures in
    let lo = c.lo.ensures in
    upper_open (chunks_held set) hi (min (hi + 1) (2 ^ 64 - 1)) c.args.met set.order set.serials refl (omega arith) c.requires.met
    (subst (λ m. IfSome m (λ e. ((hi_of e ≤ hi) ⊎ (hi < lo_of e)) × (is_span e ≡ true → hi + 1 < lo_of e))) (sym c.in-Some.is) (inr (omega arith), λ span. omega arith))

pub returns-in_default-2 : goal.returns-in_default-2
returns-in_default-2 c =
    let set = c.args.self.now in
    let hi = c.args.hi in
    let block = sym c.is_span.ensures ∙ c.if-is_span.false in
    let whole = subst (λ m. IfSome m (λ e. is_span e ≡ false → (hi_of e ≤ hi) ⊎ (hi < lo_of e))) c.in-Some.is c.requires.whole in
    upper_open (chunks_held set) hi (min (hi + 1) (2 ^ 64 - 1)) c.args.met set.order set.serials refl (omega arith) c.requires.met
    (subst (λ m. IfSome m (λ e. ((hi_of e ≤ hi) ⊎ (hi < lo_of e)) × (is_span e ≡ true → hi + 1 < lo_of e))) (sym c.in-Some.is) (whole block, λ span. absurd cc))
