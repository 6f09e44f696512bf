use Rattle.span_sets.proofs.Common.{◌+◌, ◌-◌, ◌∙◌, ◌≡◌, ap, false, is_span, IsFirst, IsFirstBit}
use Rattle.span_sets.proofs.Common.{members_in, None, Some, subst, sym}
use Rattle.span_sets.proofs.BitMembers.{block_none, block_first}
use Rattle.span_sets.proofs.chunk.Chunk.first_from.Goals as goal

pub returns-in-Some : goal.returns-in-Some
returns-in-Some c =
    let e = c.args.self in
    let block : is_span e ≡ false = sym c.is_span.ensures ∙ c.if-is_span.false in
    let bit = c.saturating_sub.result in
    let k = subst (λ b. IsFirstBit b bit (Some c.in-Some.at)) c.bits.ensures c.in-Some.ensures in
    subst (λ n. IsFirst (members_in e) c.args.number (Some (n + c.in-Some.at))) (sym c.lo-first.ensures)
    (block_first e c.args.number bit c.in-Some.at block (c.saturating_sub.ensures ∙ ap (λ n. c.args.number - n) c.lo-first.ensures) k)

pub returns-in-None : goal.returns-in-None
returns-in-None c =
    let e = c.args.self in
    let block : is_span e ≡ false = sym c.is_span.ensures ∙ c.if-is_span.false in
    let bit = c.saturating_sub.result in
    let k = subst (λ b. IsFirstBit b bit None) c.bits.ensures c.in-None.ensures in
    block_none e c.args.number bit block (c.saturating_sub.ensures ∙ ap (λ n. c.args.number - n) c.lo-first.ensures) k
