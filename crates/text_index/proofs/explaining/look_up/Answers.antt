-- Each turn adds the bit of a reason below those of the reasons after it, and its lines.
use Rattle.std.proofs.Common.{◌≡◌, ◌≤◌, ◌-◌, ◌+◌, ◌*◌, ◌∙◌, ℕ, suc, Bool, true, false, refl, ap, subst, arith, drop}
use Rattle.std.specs.Int.{from_bool}
use Rattle.krl_entries.specs.Reasons.{bit_of, every_reason}
use Rattle.krl_entries.proofs.ReasonBits.{bits_below, few_left}
use Rattle.text_index.specs.Found.{FindsSome, lacks_reason}
use Rattle.text_index.proofs.Explained.{one_more_reason}
use Rattle.text_index.proofs.explaining.look_up.Goals as goal

bit_is : (b : Bool) → from_bool b ≡ bit_of b
bit_is true = refl
bit_is false = refl

bit_small : (b : Bool) → bit_of b ≤ 1
bit_small true = omega arith
bit_small false = omega arith

pub overflow_mul-bits : goal.overflow_mul-bits
overflow_mul-bits c =
    let below = bits_below (lacks_reason c.args.names.now c.args.subject.now c.args.reasons) (drop c.reasons.left every_reason) 10 (omega (arith, few_left every_reason c.reasons.left)) in
    omega (arith, c.reasons.invariant.some.bits_are, below)

pub overflow_add-bits : goal.overflow_add-bits
overflow_add-bits c =
    let below = bits_below (lacks_reason c.args.names.now c.args.subject.now c.args.reasons) (drop c.reasons.left every_reason) 10 (omega (arith, few_left every_reason c.reasons.left)) in
    let bit = c.from.ensures ∙ bit_is c.in_ok-missing.missing in
    omega (arith, c.reasons.invariant.some.bits_are, below, bit, bit_small c.in_ok-missing.missing)

pub reasons-preserved : goal.reasons-preserved
reasons-preserved c =
    let next : c.reasons.left ≡ suc (c.reasons.left - 1) = omega (arith, c.reasons-test.true) in
    let before = subst (λ (n : ℕ). FindsSome c.args.names.now c.args.subject.now c.args.reasons (drop n every_reason) c.reasons.bits c.args.found.now.keys c.reasons.found.keys) next c.reasons.invariant.some in
    let now = rw (c.has.ensures, c.name-name.ensures) at c.in_ok-missing.ensures in
    record {
      within = omega (arith, c.reasons.invariant.within);
      some =
          one_more_reason c.args.names.now c.args.subject.now c.args.reasons (c.reasons.left - 1) _ c.reasons.bits (2 * c.reasons.bits + c.from.result) c.in_ok-missing.missing
          c.args.found.now.keys c.reasons.found.keys c.is_missing.new.found.keys
          (omega (arith, c.reasons.invariant.within, c.reasons-test.true))
          (ap (λ (n : ℕ). 2 * c.reasons.bits + n) (c.from.ensures ∙ bit_is c.in_ok-missing.missing)) before now;
    }
