-- Each turn adds the bit of a reason below those of the reasons after it.
use Rattle.krl_entries.proofs.Common.{◌-◌, ◌∙◌, ◌≡◌, ap, arith, Bool, drop, every_reason}
use Rattle.krl_entries.proofs.Common.{holds_name, map, name_asked, passes, refl, suc}
use Rattle.krl_entries.proofs.Common.{with_bit, bits_in, ℕ}
use Rattle.krl_entries.specs.declared.reasons.Reason.{Reason}
use Rattle.krl_entries.proofs.ReasonBits.{bits_below, few_left, next_bit}
use Rattle.krl_entries.proofs.ReasonTests.{held_bits, reasons_answer}
use Rattle.krl_entries.proofs.revocations.Revocations.reasons.Goals as goal

pub loop-left-init : goal.loop-left-init
loop-left-init g c = record { within = omega arith; bits = refl }

pub bounds-left-left : goal.bounds-left-left
bounds-left-left g c = omega (arith, c.loop-left.invariant.within, c.loop-left-test.true)

pub with_bit-bits-requires : goal.with_bit-bits-requires
with_bit-bits-requires g c =
    let below = bits_below (λ (reason : Reason). passes (holds_name c.args.self.now) (name_asked reason c.args.subject.now)) (drop c.loop-left.left every_reason) 15 (omega (arith, few_left every_reason c.loop-left.left)) in
    omega (arith, c.loop-left.invariant.bits, below)

pub loop-left-preserved : goal.loop-left-preserved
loop-left-preserved g c =
    let i = c.loop-left.invariant in
    let f : Reason → Bool = λ reason. passes (holds_name c.args.self.now) (name_asked reason c.args.subject.now) in
    let at : c.loop-left.left ≡ suc (c.loop-left.left - 1) = omega (arith, c.loop-left-test.true) in
    record {
      within = omega (arith, i.within);
      bits =
          c.with_bit-bits.ensures
          ∙ ap (λ (n : ℕ). with_bit n c.has_asked-held.result) (i.bits ∙ ap (λ (n : ℕ). bits_in (map f (drop n every_reason))) at)
          ∙ ap (λ (b : Bool). with_bit (bits_in (map f (drop (suc (c.loop-left.left - 1)) every_reason))) b) (c.has_asked-held.ensures ∙ ap (passes (holds_name c.args.self.now)) c.name.ensures)
          ∙ next_bit f every_reason (c.loop-left.left - 1) _ (omega (arith, i.within, c.loop-left-test.true));
    }

pub returns-clause-tested : goal.returns-clause-tested
returns-clause-tested g c =
    let none : c.loop-left.left ≡ 0 = omega (arith, c.loop-left-test.false) in
    held_bits c.args.self.now c.args.subject.now c.loop-left.bits (rw none at c.loop-left.invariant.bits)

pub returns-clause-meant : goal.returns-clause-meant
returns-clause-meant g c entries m = reasons_answer _ entries m _ _ (returns-clause-tested g c)

pub returns-clause-small : goal.returns-clause-small
returns-clause-small g c =
    let none : c.loop-left.left ≡ 0 = omega (arith, c.loop-left-test.false) in
    let below = bits_below (λ (reason : Reason). passes (holds_name c.args.self.now) (name_asked reason c.args.subject.now)) every_reason 10 (omega arith) in
    omega (arith, rw none at c.loop-left.invariant.bits, below)
