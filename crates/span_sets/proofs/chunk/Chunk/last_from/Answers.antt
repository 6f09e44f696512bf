use Rattle.span_sets.proofs.Common.{◌+◌, ◌-◌, ◌<◌, ◌∙◌, ◌≡◌, ◌≤◌, ap, arith, bit_at, bits_of}
use Rattle.span_sets.proofs.Common.{Covers, false, GoesOn, hi_of, is_span, members_in, subst, sym}
use Rattle.span_sets.proofs.Common.{ℕ}
use Rattle.span_sets.proofs.ChunkMembers.{in_block, block_ends}
use Rattle.span_sets.proofs.BitMembers.{block_on, block_stops}
use Rattle.span_sets.proofs.chunk.Chunk.last_from.Goals as goal

pub overflow_sub-member : goal.overflow_sub-member
overflow_sub-member c =
    let e = c.args.self in
    let block : is_span e ≡ false = sym c.is_span.ensures ∙ c.if-is_span.false in
    let at = (in_block e c.args.member block).0 c.requires in
    let ends = block_ends e block in
    omega (arith, at.0, c.lo-first.ensures)

pub last_bit-requires-clause-within : goal.last_bit-requires-clause-within
last_bit-requires-clause-within c =
    let e = c.args.self in
    let block : is_span e ≡ false = sym c.is_span.ensures ∙ c.if-is_span.false in
    let at = (in_block e c.args.member block).0 c.requires in
    let ends = block_ends e block in
    omega (arith, at.0, at.1, c.lo-first.ensures)

pub last_bit-requires-clause-set : goal.last_bit-requires-clause-set
last_bit-requires-clause-set c =
    let e = c.args.self in
    let block : is_span e ≡ false = sym c.is_span.ensures ∙ c.if-is_span.false in
    let at = (in_block e c.args.member block).0 c.requires in
    let ends = block_ends e block in
    ap (λ b. bit_at b (c.args.member - c.lo-first.result)) c.bits.ensures
    ∙ ap (λ (n : ℕ). bit_at (bits_of e) (c.args.member - n)) (c.lo-first.ensures ∙ ends.0)
    ∙ at.2

pub returns-clause-on : goal.returns-clause-on
returns-clause-on c =
    let e = c.args.self in
    let block : is_span e ≡ false = sym c.is_span.ensures ∙ c.if-is_span.false in
    let last = c.last_bit in
    let all = subst (λ n. (i : ℕ) → c.args.member - n ≤ i → i ≤ last.result → bit_at (bits_of e) i ≡ 1) c.lo-first.ensures
    (subst (λ b. (i : ℕ) → c.args.member - c.lo-first.result ≤ i → i ≤ last.result → bit_at b i ≡ 1) c.bits.ensures last.ensures.all) in
    subst (λ n. GoesOn (members_in e) c.args.member (n + last.result)) (sym c.lo-first.ensures)
    (block_on e c.args.member last.result block c.requires (omega (arith, last.ensures.order, c.lo-first.ensures)) last.ensures.within all)

pub returns-clause-last : goal.returns-clause-last
returns-clause-last c =
    let e = c.args.self in
    let block : is_span e ≡ false = sym c.is_span.ensures ∙ c.if-is_span.false in
    let last = c.last_bit in
    let clear = subst (λ b. last.result < 63 → bit_at b (last.result + 1) ≡ 0) c.bits.ensures last.ensures.last in
    subst (λ n. n + last.result < hi_of e → Covers (members_in e) (n + last.result + 1) → ⊥) (sym c.lo-first.ensures) (block_stops e last.result block clear)
