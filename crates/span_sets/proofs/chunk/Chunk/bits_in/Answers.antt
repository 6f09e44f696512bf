use Rattle.span_sets.proofs.Common.{◌*◌, ◌-◌, ◌∙◌, ◌≡◌, arith, bit_at-zero, BitCovers, Covers}
use Rattle.span_sets.proofs.Common.{false, is_span, members_in, subst, sym, window_of, ℕ}
use Rattle.span_sets.proofs.ChunkMembers.{in_block}
use Rattle.span_sets.proofs.chunk.Chunk.bits_in.Goals as goal

pub returns-then-window : goal.returns-then-window
returns-then-window c s from to =
    let e = c.args.self in
    let block : is_span e ≡ false = sym c.is_span.ensures ∙ c.if-is_span.false in
    let window : window_of e ≡ c.args.window = sym c.window.ensures ∙ c.if-window.true in
    let members = in_block e s block in
    let P : ℕ → ℕ → Type 0 = λ w b. (BitCovers 64 (64 * w) b s → Covers (members_in e) s) × (Covers (members_in e) s → BitCovers 64 (64 * w) b s) in
    subst (λ w. P w c.bits.result) window (subst (λ b. P (window_of e) b) (sym c.bits.ensures) (members.1, members.0))

pub returns-else-window : goal.returns-else-window
returns-else-window c s from to =
    let e = c.args.self in
    let block : is_span e ≡ false = sym c.is_span.ensures ∙ c.if-is_span.false in
    let members = in_block e s block in (
      λ n. absurd (omega (arith, n.2, bit_at-zero (s - 64 * c.args.window))),
      λ n. let at = members.0 n in absurd (c.if-window.false (omega (arith, c.window.ensures, at.0, at.1))),
    )
