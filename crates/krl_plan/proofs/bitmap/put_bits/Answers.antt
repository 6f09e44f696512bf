use Rattle.std.proofs.Common.{◌≡◌, ◌+◌, ◌-◌, ◌*◌, ◌++◌, [], ◌∷◌, List, ℕ, ap, subst, ◌∙◌, arith}
use Rattle.krl_plan.specs.Written.{Above, bitmap_of, bits_of, first_of}
use Rattle.krl_plan.proofs.BitmapBits.{bytes_more}
use Rattle.krl_plan.proofs.GroupTexts.{first-get}
use Rattle.krl_plan.proofs.ZeroSpan.{zero_span}
use Rattle.krl_plan.proofs.bitmap.put_bits.Goals as goal

pub loop-index-preserved : goal.loop-index-preserved
loop-index-preserved c =
    let runs = c.args.runs.now in
    let first : ℕ = first_of runs in
    let index = c.loop-index.index in
    let here = c.from-first.ensures in
    let get = first-get runs zero_span c.requires.some in
    let at = c.from.ensures in
    let base : c.from-first.result + 8 * c.from.result ≡ first + 8 * (index - 1) = omega arith in
    let byte : c.byte_at-byte.result ≡ bits_of runs (first + 8 * (index - 1)) 8 = c.byte_at-byte.ensures.bits ∙ ap (λ (n : ℕ). bits_of runs n 8) base in
    let out : c.put_byte.new.out.items ≡ c.loop-index.out.items ++ bits_of runs (first + 8 * (index - 1)) 8 ∷ [] = c.in_ok-put_byte.ensures.appends ∙ ap (λ (n : ℕ). c.loop-index.out.items ++ n ∷ []) byte in
    record {
      bytes = ap (λ (t : List ℕ). t ++ bitmap_of runs first (index - 1)) out ∙ bytes_more runs first index c.loop-index.out.items (omega arith) ∙ c.loop-index.invariant.bytes;
      above = subst (λ (n : ℕ). Above runs c.byte_at-byte.new.count n) base c.byte_at-byte.ensures.above;
    }
