use Rattle.krl_plan.proofs.Common.{◌++◌, ◌+◌, ◌-◌, ◌∙◌, ◌∷◌, ◌≡◌, ap, arith, first_of, get_or}
use Rattle.krl_plan.proofs.Common.{length, number, reach, runs_at, string, sym, ℕ}
use Rattle.krl_plan.proofs.GroupTexts.{first-get, range_put, reach-get}
use Rattle.krl_plan.proofs.ZeroSpan.{zero_span}
use Rattle.krl_plan.specs.Written.{type_byte}
use Rattle.krl_plan.specs.declared.group.Sort.TheVariants as sorts
use Rattle.krl_plan.proofs.group_text.put_range.Goals as goal

pub returns : goal.returns
returns c =
    let runs = c.args.runs.now in
    let one : length runs ≡ 1 = c.requires.allowed in
    let lo = first-get runs zero_span (omega arith) in
    let at : length runs - 1 ≡ 0 = omega arith in
    let far : reach runs ≡ (get_or runs 0 zero_span).hi - (get_or runs 0 zero_span).lo = reach-get runs zero_span (omega arith) ∙ ap (λ (n : ℕ). (get_or runs n zero_span).hi - (get_or runs 0 zero_span).lo) at in
    let ordered = (runs_at 0 runs 0 zero_span c.requires.rising (omega arith)).1 in
    let hi : (get_or runs 0 zero_span).hi ≡ first_of runs + reach runs = omega arith in
    rw (c.in_ok-put_u64-2.ensures.appends, c.in_ok-put_u64.ensures.appends, c.in_ok-put_u32.ensures.appends, c.in_ok-put_byte.ensures.appends)
    (range_put c.args.out.now.items (get_or runs 0 zero_span).lo (get_or runs 0 zero_span).hi
    ∙ ap (λ (n : ℕ). c.args.out.now.items ++ type_byte sorts.Range ∷ string (number 8 n ++ number 8 (get_or runs 0 zero_span).hi)) (sym lo)
    ∙ ap (λ (n : ℕ). c.args.out.now.items ++ type_byte sorts.Range ∷ string (number 8 (first_of runs) ++ number 8 n)) hi)
