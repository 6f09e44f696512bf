-- A byte of a bitmap that passes its judgement.
use Rattle.krl_format.proofs.Common.{◌+◌, ◌-◌, ◌<◌, ◌^◌, ◌∙◌, ◌≡◌}
use Rattle.krl_format.proofs.Common.{ap, arith}
use Rattle.krl_format.proofs.Common.{base_of, bit_at, bit_at-zero}
use Rattle.krl_format.proofs.Common.{bits_judged, Bool, cond, eqb, Err, false}
use Rattle.krl_format.proofs.Common.{highest_bit}
use Rattle.krl_format.proofs.Common.{judge, leading_zeros, leb, leb-false}
use Rattle.krl_format.proofs.Common.{ltb}
use Rattle.krl_format.proofs.Common.{ne_eqb, next_bits}
use Rattle.krl_format.proofs.Common.{not, Ok}
use Rattle.krl_format.proofs.Common.{passes_end, Place, refl}
use Rattle.krl_format.proofs.Common.{suc, true, w8, zero, ℕ}
use Rattle.krl_format.proofs.Common.{cases_Bool, eqb-true, inl, inr, KrlFault, lt-ltb, Result}
use Rattle.krl_types.specs.declared.krl_fault.KrlFault.TheVariants as faults
use Rattle.serial_set.proofs.Bits.{highest_bit as top_bit}

pub not_past_at : (base byte : ℕ) → byte < 256 → passes_end base byte ≡ false → (k : ℕ) → bit_at byte k ≡ 1 → base + k < 2 ^ 64
not_past_at base zero h passes k bit = let z = bit_at-zero k in absurd (omega (arith, z, bit))
not_past_at base (suc b) h passes k bit =
    let byte = suc b in
    let low : leb 18446744073709551616 (base + highest_bit byte) ≡ false = rw (ne_eqb byte 0 (λ e. absurd (omega arith))) at passes in
    let lt : base + highest_bit byte < 18446744073709551616 = leb-false 18446744073709551616 (base + highest_bit byte) low in
    let most = (top_bit byte (leading_zeros w8 byte) (omega arith) h refl).1 k bit in
    omega (arith, most, lt)

pub judged_parts : (first sign_free past : Bool) (next place : Place)
    → cond first (cond sign_free (judge (not past) faults.BitmapWraps place) (Err faults.BitmapNegative)) (judge (not past) faults.BitmapWraps place) ≡ Ok next
    → (first ≡ true → sign_free ≡ true) × (past ≡ false) × (place ≡ next)
judged_parts true true true next place e = absurd (cc)
judged_parts true true false next place e = (λ _. refl, refl, cc)
judged_parts true false past next place e = absurd (cc)
judged_parts false t true next place e = absurd (cc)
judged_parts false t false next place e = (λ f. absurd (cc), refl, cc)

pub bits_pass : (offset size left after byte : ℕ) → (left ≡ size → byte < 128) → passes_end (base_of offset left) byte ≡ false
    → bits_judged offset size left after byte ≡ Ok (next_bits offset size (left - 1) after)
bits_pass offset size left after byte sign passes =
    let W : Result Place KrlFault = judge (not (passes_end (base_of offset left) byte)) faults.BitmapWraps (next_bits offset size (left - 1) after) in
    let w : W ≡ Ok (next_bits offset size (left - 1) after) = ap (λ (b : Bool). judge (not b) faults.BitmapWraps (next_bits offset size (left - 1) after)) passes in
    let tested = λ (b : Bool). cond b (cond (ltb byte 128) W (Err faults.BitmapNegative)) W in
    elim (cases_Bool (eqb left size)) [
      | inl e ↦ ap tested e ∙ ap (λ (b : Bool). cond b W (Err faults.BitmapNegative)) (lt-ltb byte 128 (sign (eqb-true left size e))) ∙ w
      | inr e ↦ ap tested e ∙ w
    ]
