-- The bits of a bitmap, found from the last serial to the first.
use Rattle.krl_plan.proofs.Common.{[], ◌&&◌, ◌*◌, ◌++◌, ◌+◌, ◌-◌, ◌<◌, ◌^◌, ◌||◌, ◌∙◌, ◌∷◌, ◌≡◌}
use Rattle.krl_plan.proofs.Common.{◌≤◌, Above, ap, append_assoc, arith, bitmap_of, bits_of, Bool}
use Rattle.krl_plan.proofs.Common.{cond, false, get_or, has, le-leb, leb, length, List, lt-leb}
use Rattle.krl_plan.proofs.Common.{refl, runs_at, RunsFrom, Span, suc, sym, true, zero, ℕ}
use Rattle.std.proofs.Math.Nat.{pow-le-pow_right, pow-succ'}
use Rattle.std.proofs.Math.Bool.{and-false, or-false}

-- ---- one serial

pub has_past : (run : Span) (runs : List Span) (serial : ℕ) → run.hi < serial
    → has (run ∷ runs) serial ≡ has runs serial
has_past run runs serial lt =
    ap (λ (b : Bool). (leb run.lo serial && b) || has runs serial) (lt-leb serial run.hi lt)
    ∙ ap (λ (b : Bool). b || has runs serial) (and-false (leb run.lo serial))

pub has_before : (run : Span) (runs : List Span) (serial : ℕ) → serial < run.lo
    → has (run ∷ runs) serial ≡ has runs serial
has_before run runs serial lt =
    ap (λ (b : Bool). (b && leb serial run.hi) || has runs serial) (lt-leb run.lo serial lt)

Above-tail : (run : Span) (runs : List Span) (count bound : ℕ) → Above (run ∷ runs) (suc count) bound
    → Above runs count bound
Above-tail run runs count bound a = record {
  within = let w = a.within in omega arith;
  above = λ k d le lt. a.above (suc k) d (omega arith) (omega arith);
}

has_none : (runs : List Span) (serial : ℕ)
    → ((k : ℕ) (d : Span) → k < length runs → serial + 1 ≤ (get_or runs k d).lo)
    → has runs serial ≡ false
has_none [] serial h = refl
has_none (run ∷ runs) serial h =
    let here : serial + 1 ≤ run.lo = h 0 run (omega arith) in
    has_before run runs serial (omega arith)
    ∙ has_none runs serial (λ k d lt. h (suc k) d (omega arith))

pub no_run_has : (runs : List Span) (serial : ℕ) → Above runs 0 (serial + 1)
    → has runs serial ≡ false
no_run_has runs serial a = has_none runs serial (λ k d lt. a.above k d (omega arith) lt)

-- the last run that begins at the serial or below decides
pub last_run_decides : (a : ℕ) (runs : List Span) (count serial : ℕ) (d : Span) → RunsFrom a runs
    → Above runs (suc count) (serial + 1)
    → (get_or runs count d).lo ≤ serial → has runs serial ≡ leb serial (get_or runs count d).hi
last_run_decides a [] count serial d r above le = let w = above.within in absurd (omega arith)
last_run_decides a (run ∷ runs) zero serial d r above le =
    ap (λ (b : Bool). (b && leb serial run.hi) || has runs serial) (le-leb run.lo serial le)
    ∙ ap (λ (b : Bool). leb serial run.hi || b)
    (has_none runs serial (λ k e lt. above.above (suc k) e (omega arith) (omega arith)))
    ∙ or-false (leb serial run.hi)
last_run_decides a (run ∷ runs) (suc count) serial d r above le =
    let tail = Above-tail run runs (suc count) (serial + 1) above in
    let w = tail.within in
    let far = (runs_at (run.hi + 2) runs count d r.2 (omega arith)).0 in
    has_past run runs serial (omega arith)
    ∙ last_run_decides (run.hi + 2) runs count serial d r.2 tail le

pub Above-less : (runs : List Span) (count more less : ℕ) → less ≤ more → Above runs count more
    → Above runs count less
Above-less runs count more less le a = record {
  within = a.within;
  above = λ k d from lt. let h = a.above k d from lt in omega arith;
}

-- ---- one byte

pub bits_of_lt : (runs : List Span) (first count : ℕ) → bits_of runs first count < 2 ^ count
bits_of_lt runs first zero = omega arith
bits_of_lt runs first (suc count) =
    let rest = bits_of_lt runs (first + 1) count in
    let twice = pow-succ' 2 count in
    let bit : cond (has runs first) 1 0 ≤ 1 =
    elim (has runs first) as (λ b. cond b 1 0 ≤ 1)
    [ true ↦ omega arith | false ↦ omega arith ] in
    omega arith

-- one more bit, below those that are set already
pub bits_more : (runs : List Span) (base bit : ℕ) → 0 < bit → bit ≤ 8
    → 2 * bits_of runs (base + bit) (8 - bit) + cond (has runs (base + (bit - 1)))
    1 0 ≡ bits_of runs (base + (bit - 1)) (8 - (bit - 1))
bits_more runs base bit some most =
    let count : 8 - (bit - 1) ≡ suc (8 - bit) = omega arith in
    let next : base + bit ≡ base + (bit - 1) + 1 = omega arith in
    let whole : bits_of runs (base + (bit - 1)) (8 - (bit - 1)) ≡ bits_of runs (base + (bit - 1))
    (suc (8 - bit)) = ap (bits_of runs (base + (bit - 1))) count in
    let same : bits_of runs (base + bit) (8 - bit) ≡ bits_of runs (base + (bit - 1) + 1) (8 - bit)
    = ap (λ (n : ℕ). bits_of runs n (8 - bit)) next in
    omega arith

-- ---- all bytes

pub bytes_more : (runs : List Span) (first index : ℕ) (out : List ℕ) → 0 < index
    → (out ++ bits_of runs (first + 8 * (index - 1)) 8 ∷ []) ++ bitmap_of runs first (index - 1)
    ≡ out ++ bitmap_of runs first index
bytes_more runs first index out some =
    let at : index ≡ suc (index - 1) = omega arith in
    append_assoc out (bits_of runs (first + 8 * (index - 1)) 8 ∷ [])
    (bitmap_of runs first (index - 1))
    ∙ ap (λ (n : ℕ). out ++ bitmap_of runs first n) (sym at)

-- before its last bit, a byte is not full
pub byte_small : (runs : List Span) (first count : ℕ) → count ≤ 7 → bits_of runs first count < 128
byte_small runs first count few =
    let lt = bits_of_lt runs first count in
    let most : 2 ^ count ≤ 2 ^ 7 = pow-le-pow_right (omega arith) few in
    omega arith
