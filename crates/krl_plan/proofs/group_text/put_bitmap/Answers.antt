use Rattle.krl_plan.proofs.Common.{◌++◌, ◌+◌, ◌/◌, ◌∙◌, ◌∷◌, ◌≡◌, ap, bitmap_of, bitmap_size}
use Rattle.krl_plan.proofs.Common.{first_of, get_or, number, string, sym, ℕ}
use Rattle.krl_plan.proofs.GroupTexts.{bitmap_put, first-get, length-bitmap_of}
use Rattle.krl_plan.proofs.ZeroSpan.{zero_span}
use Rattle.krl_plan.specs.Written.{type_byte}
use Rattle.krl_plan.specs.declared.group.Sort.TheVariants as sorts
use Rattle.krl_plan.proofs.group_text.put_bitmap.Goals as goal

pub returns : goal.returns
returns c =
    let runs = c.args.runs.now in
    let out = c.args.out.now.items in
    let first : ℕ = first_of runs in
    let size : ℕ = (c.reach_of.result + 1) / 8 + 1 in
    let lo = first-get runs zero_span c.requires.some in
    let same : size ≡ bitmap_size runs = ap (λ (n : ℕ). (n + 1) / 8 + 1) c.reach_of.ensures in
    let put = bitmap_put out (get_or runs 0 zero_span).lo size (bitmap_of runs first size) (length-bitmap_of runs first size) in
    rw (c.in_ok-put_bits.ensures, c.in_ok-put_u32-2.ensures.appends, c.in_ok-put_u64.ensures.appends, c.in_ok-put_u32.ensures.appends, c.in_ok-put_byte.ensures.appends)
    (put ∙ ap (λ (n : ℕ). out ++ type_byte sorts.Bitmap ∷ string (number 8 n ++ string (bitmap_of runs first size))) (sym lo)
    ∙ ap (λ (n : ℕ). out ++ type_byte sorts.Bitmap ∷ string (number 8 first ++ string (bitmap_of runs first n))) same)
