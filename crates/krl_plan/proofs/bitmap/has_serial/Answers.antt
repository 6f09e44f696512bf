use Rattle.krl_plan.proofs.Common.{◌+◌, ◌-◌, ◌∙◌, ◌≡◌, Above, ap, arith, leb, subst, suc, sym, ℕ}
use Rattle.krl_plan.proofs.BitmapBits.{last_run_decides, no_run_has}
use Rattle.krl_plan.proofs.ZeroSpan.{zero_span}
use Rattle.krl_plan.proofs.bitmap.has_serial.Goals as goal

pub returns-then-from-serial-clause-has : goal.returns-then-from-serial-clause-has
returns-then-from-serial-clause-has c =
    let runs = c.args.runs.now in
    let serial = c.args.serial in
    let one : c.loop-count.count ≡ suc (c.loop-count.count - 1) = omega arith in
    let above : Above runs (suc (c.loop-count.count - 1)) (serial + 1) = subst (λ (n : ℕ). Above runs n (serial + 1)) one c.loop-count.invariant in
    let begun = c.if-from-serial.true in
    let from = c.from.ensures in
    ap (leb serial) c.from-then-from-serial.ensures ∙ sym (last_run_decides 0 runs (c.loop-count.count - 1) serial zero_span c.requires.rising above (omega arith))

pub returns-clause-has : goal.returns-clause-has
returns-clause-has c =
    let none : c.loop-count.count ≡ 0 = omega arith in
    sym (no_run_has c.args.runs.now c.args.serial (subst (λ (n : ℕ). Above c.args.runs.now n (c.args.serial + 1)) none c.loop-count.invariant))
