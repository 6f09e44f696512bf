use Rattle.span_sets.proofs.Common.{◌%◌, ◌*◌, ◌-◌, ◌/◌, ◌∙◌, ◌≡◌, ap, arith, bit_at, bits_of}
use Rattle.span_sets.proofs.Common.{eqb-true, false, is_span, sym, window_of}
use Rattle.span_sets.proofs.ChunkMembers.{in_block}
use Rattle.span_sets.proofs.chunk.Chunk.has.Goals as goal

pub returns-then-serial-window : goal.returns-then-serial-window
returns-then-serial-window c =
    let e = c.args.self in
    let s = c.args.serial in
    let block : is_span e ≡ false = sym c.is_span.ensures ∙ c.if-is_span.false in
    let members = in_block e s block in
    let window : window_of e ≡ s / 64 = sym c.window.ensures ∙ sym c.if-serial-window.true in
    let same : s - 64 * window_of e ≡ s % 64 = omega arith in
    let bit : bit_at c.bits.result (s % 64) ≡ bit_at (bits_of e) (s - 64 * window_of e) =
    ap (λ b. bit_at b (s % 64)) c.bits.ensures ∙ ap (λ i. bit_at (bits_of e) i) (sym same) in (
      λ t. members.1 (omega arith, omega arith, sym bit ∙ c.has_bit.ensures.0 t),
      λ n. c.has_bit.ensures.1 (bit ∙ (members.0 n).2),
    )

pub returns-else-serial-window : goal.returns-else-serial-window
returns-else-serial-window c =
    let e = c.args.self in
    let s = c.args.serial in
    let block : is_span e ≡ false = sym c.is_span.ensures ∙ c.if-is_span.false in
    let members = in_block e s block in (
      λ t. absurd (c.if-serial-window.false (eqb-true _ _ t)),
      λ n. let at = members.0 n in absurd (c.if-serial-window.false (omega (arith, c.window.ensures, at.0, at.1))),
    )
