-- Below zero, the words depend on the number without its sign.
use Rattle.krl_c.proofs.Common.{◌<ℤ◌, ◌∙◌, ◌≡◌, ap, arith, ints, negsuc, of_z, pos, refl, rules}
use Rattle.krl_c.proofs.Common.{SFits, sym, to_z, to_z-of_z, unsigned_abs, w32, ℤ}
use Rattle.krl_c.specs.Words.{or_unknown, refusal, words}
use Rattle.krl_c.proofs.words.words_for.Goals as goal

below_zero : (answer : ℤ) → answer <ℤ pos 0 → words answer ≡ or_unknown (refusal (unsigned_abs answer))
below_zero (pos n) below = absurd (omega (arith, ints))
below_zero (negsuc n) below = refl

pub returns-in-Some : goal.returns-in-Some
returns-in-Some c =
    let answer = c.args.answer in
    let fits : SFits w32 answer = search rules in
    let same : to_z w32 (of_z w32 answer) ≡ answer = to_z-of_z w32 answer fits in
    let below : answer <ℤ pos 0 = omega (arith, ints) in
    let number : c.unsigned_abs.result ≡ unsigned_abs answer = cc (same, c.unsigned_abs.ensures.value) in
    sym (below_zero answer below ∙ ap (λ n. or_unknown (refusal n)) (sym number) ∙ ap or_unknown c.in-Some.ensures)

pub returns-in-None : goal.returns-in-None
returns-in-None c =
    let answer = c.args.answer in
    let fits : SFits w32 answer = search rules in
    let same : to_z w32 (of_z w32 answer) ≡ answer = to_z-of_z w32 answer fits in
    let below : answer <ℤ pos 0 = omega (arith, ints) in
    let number : c.unsigned_abs.result ≡ unsigned_abs answer = cc (same, c.unsigned_abs.ensures.value) in
    sym (below_zero answer below ∙ ap (λ n. or_unknown (refusal n)) (sym number) ∙ ap or_unknown c.in-None.ensures)
