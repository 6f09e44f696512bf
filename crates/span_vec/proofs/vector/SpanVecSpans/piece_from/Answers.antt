use Rattle.span_vec.proofs.Common.{◌-◌, ◌<◌, ◌∙◌, ◌≡◌, All, ap, arith, drop, length, length-drop}
use Rattle.span_vec.proofs.Common.{List, Span, subst, take, take_all, ℕ}
use Rattle.serial_set.proofs.RunIteration.{piece_first, since_after}
use Rattle.serial_set.specs.Iteration.{since}
use Rattle.span_vec.proofs.vector.SpanVecSpans.piece_from.Goals as goal

whole : (xs : List Span) (at : ℕ) → take (length xs - at) (drop at xs) ≡ drop at xs
whole xs at = take_all _ _ (omega (arith, length-drop at xs))

pub returns : goal.returns
returns c =
    let items = c.args.self.now.items.items in
    let at = c.count_ending_before-at.result in
    let n = c.args.number in
    piece_first items (since n (drop at items)) _ n
    (since_after n at items (subst (λ l. All (λ t. t.hi < n) (take at l)) c.deref.ensures.value c.count_ending_before-at.ensures.before))
    (c.from.ensures ∙ ap (λ l. take 32 (since n (take (length l - at) (drop at l)))) c.deref-2.ensures.value ∙ ap (λ (l : List Span). take 32 (since n l)) (whole items at))
