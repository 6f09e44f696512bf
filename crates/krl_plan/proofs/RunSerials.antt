-- The serials of runs: split at a position, from the first serial to the last, and bit by bit.
use Rattle.krl_plan.proofs.Common.{[], ◌*◌, ◌+◌, ◌/◌, ◌<◌, ◌^◌, ◌↔◌, ◌∙◌, ◌∷◌, ◌≡◌, ◌≤◌, ◌⊎◌, ap}
use Rattle.krl_plan.proofs.Common.{AreSerials, arith, bitmap_of, bits_of, Bool, cond, Covers}
use Rattle.krl_plan.proofs.Common.{covers_append, drop, end_of, false, false_from_ne_true, first_of}
use Rattle.krl_plan.proofs.Common.{has, has_names, inl, inr, IsRuns, IsTrue, length, List}
use Rattle.krl_plan.proofs.Common.{mul_assoc, mul_comm, number_of, reach, refl, RunsFrom, Span}
use Rattle.krl_plan.proofs.Common.{subst, suc, sym, take, take-append-drop, true, zero, ℕ}
use Rattle.std.specs.Int.{bit_at}
use Rattle.std.proofs.Math.Nat.{pow-succ'}
use Rattle.std.proofs.lemmas.Nat.Bits.{bit_at-suc, bit_at-zero, bit_at_lowest}
use Rattle.ssh_wire.proofs.Magnitudes.{number_of-cons}
use Rattle.ssh_wire.proofs.Digits.{bytes_as_bits}
use Rattle.krl_plan.proofs.BitmapBits.{bits_of_lt}
use Rattle.krl_plan.proofs.GroupTexts.{length-bitmap_of}
use Rattle.std.proofs.Math.Logic.Iff as Iff

-- ---- split in two

pub names_parts : (n : ℕ) (runs : List Span) (s : ℕ)
    → (Covers (take n runs) s ⊎ Covers (drop n runs) s) ↔ Covers runs s
names_parts n runs s =
    subst (λ (l : List Span). (Covers (take n runs) s ⊎ Covers (drop n runs) s) ↔ Covers l s)
    (take-append-drop n runs) (Iff.symm (covers_append (take n runs) (drop n runs) s))

pub AreSerials-take : (n : ℕ) (runs : List Span) → AreSerials runs → AreSerials (take n runs)
AreSerials-take n runs h s named = h s ((names_parts n runs s).0 (inl named))

pub AreSerials-drop : (n : ℕ) (runs : List Span) → AreSerials runs → AreSerials (drop n runs)
AreSerials-drop n runs h s named = h s ((names_parts n runs s).0 (inr named))

-- ---- from the first serial to the last

within_end : (a : ℕ) (run : Span) (runs : List Span) (s : ℕ) → RunsFrom a (run ∷ runs)
    → Covers (run ∷ runs) s → (run.lo ≤ s) × (s ≤ end_of run runs)
within_end a run [] s r n = elim n [ inl here ↦ here | inr later ↦ absurd later ]
within_end a run (next ∷ runs) s r n =
    let some : run.lo ≤ run.hi = r.1 in
    let above : run.hi + 2 ≤ next.lo = r.2.0 in
    let rest : (t : ℕ) → Covers (next ∷ runs) t → (next.lo ≤ t) × (t ≤ end_of next runs) =
    λ t. within_end (run.hi + 2) next runs t r.2 in
    elim n [
      | inl here ↦
          let far = (rest next.lo (inl (omega arith, r.2.1))).1 in
          (here.0, omega (arith, here.1))
      | inr later ↦ (let far = (rest s later).0 in omega arith, (rest s later).1)
    ]

end_named : (a : ℕ) (run : Span) (runs : List Span) → RunsFrom a (run ∷ runs)
    → Covers (run ∷ runs) (end_of run runs)
end_named a run [] r = inl (r.1, omega arith)
end_named a run (next ∷ runs) r = inr (end_named (run.hi + 2) next runs r.2)

-- a serial of the runs is neither below the first nor above the last
pub names_within : (runs : List Span) (s : ℕ) → IsRuns runs → Covers runs s
    → (first_of runs ≤ s) × (s ≤ first_of runs + reach runs)
names_within [] s r n = absurd n
names_within (run ∷ runs) s r n =
    let within = within_end 0 run runs s r n in (within.0, omega (arith, within.0, within.1))

pub last_fits : (runs : List Span) → IsRuns runs → AreSerials runs
    → first_of runs + reach runs < 2 ^ 64
last_fits [] r h = omega arith
last_fits (run ∷ runs) r h =
    let named = end_named 0 run runs r in
    let end : ℕ = end_of run runs in
    omega (arith, (within_end 0 run runs end r named).0, (h end named).1)

-- ---- bits

one_or_none : (b : Bool) → ((cond {A = ℕ} b 1 0 ≡ 1) ↔ IsTrue b) × (cond {A = ℕ} b 1 0 ≤ 1)
one_or_none true = ((λ e. refl, λ yes. refl), omega arith)
one_or_none false = ((λ e. absurd (omega (arith, e)), λ yes. absurd cc), omega arith)

-- the lowest bit, and those above it
lowest_bit : (b : Bool) (m : ℕ) → bit_at (cond {A = ℕ} b 1 0 + 2 * m) 0 ≡ cond {A = ℕ} b 1 0
lowest_bit b m =
    let small = (one_or_none b).1 in bit_at_lowest (cond {A = ℕ} b 1 0 + 2 * m) ∙ omega arith

higher_bit : (b : Bool) (m i : ℕ) → bit_at (cond {A = ℕ} b 1 0 + 2 * m) (suc i) ≡ bit_at m i
higher_bit b m i =
    let small = (one_or_none b).1 in
    let half : (cond {A = ℕ} b 1 0 + 2 * m) / 2 ≡ m = omega arith in
    bit_at-suc (cond {A = ℕ} b 1 0 + 2 * m) i ∙ ap (λ (n : ℕ). bit_at n i) half

pub bits_name : (runs : List Span) (first count i : ℕ)
    → (bit_at (bits_of runs first count) i ≡ 1) ↔ ((i < count) × Covers runs (first + i))
bits_name runs first zero i =
    (λ e. let none = bit_at-zero i in absurd (omega (arith, e)), λ h. absurd (omega (arith, h.0)))
bits_name runs first (suc count) zero =
    let at : first ≡ first + 0 = omega arith in
    let bit = lowest_bit (has runs first) (bits_of runs (first + 1) count) in
    let one = Iff.trans (one_or_none (has runs first)).0 (has_names runs first) in (
      λ e. (omega arith, subst (λ (s : ℕ). Covers runs s) at (one.0 (sym bit ∙ e))),
      λ h. bit ∙ one.1 (subst (λ (s : ℕ). Covers runs s) (sym at) h.1),
    )
bits_name runs first (suc count) (suc i) =
    let at : first + 1 + i ≡ first + suc i = omega arith in
    let bit = higher_bit (has runs first) (bits_of runs (first + 1) count) i in
    let rest = bits_name runs (first + 1) count i in (
      λ e.
          let named = rest.0 (sym bit ∙ e) in
          (omega (arith, named.0), subst (λ (s : ℕ). Covers runs s) at named.1),
      λ h. bit ∙ rest.1 (omega (arith, h.0), subst (λ (s : ℕ). Covers runs s) (sym at) h.1),
    )

-- ---- the number of the bytes

bits_split : (runs : List Span) (first m n : ℕ)
    → bits_of runs first (m + n) ≡ bits_of runs first m + 2 ^ m * bits_of runs (first + m) n
bits_split runs first zero n =
    let at : first + 0 ≡ first = omega arith in
    let count : 0 + n ≡ n = omega arith in
    ap (bits_of runs first) count ∙ ap (λ (s : ℕ). bits_of runs s n) (sym at) ∙ omega arith
bits_split runs first (suc m) n =
    let rest = bits_split runs (first + 1) m n in
    let count : suc m + n ≡ suc (m + n) = omega arith in
    let at : first + 1 + m ≡ first + suc m = omega arith in
    let above : ℕ = bits_of runs (first + suc m) n in
    let same : 2 ^ m * bits_of runs (first + 1 + m) n ≡ 2 ^ m * above =
    ap (λ (s : ℕ). 2 ^ m * bits_of runs s n) at in
    let product : 2 ^ suc m * above ≡ 2 * (2 ^ m * above) =
    ap (λ (p : ℕ). p * above) (pow-succ' 2 m) ∙ mul_assoc 2 (2 ^ m) above in
    ap (bits_of runs first) count ∙ omega arith

number_of_none : number_of [] ≡ 0
unfolding number_of
number_of_none = refl

pub number-bitmap : (runs : List Span) (first size : ℕ)
    → number_of (bitmap_of runs first size) ≡ bits_of runs first (8 * size)
number-bitmap runs first zero = number_of_none
number-bitmap runs first (suc size) =
    let rest = number-bitmap runs first size in
    let top : ℕ = bits_of runs (first + 8 * size) 8 in
    let low : List ℕ = bitmap_of runs first size in
    let power : 256 ^ length low ≡ 2 ^ (8 * size) =
    ap (λ (n : ℕ). 256 ^ n) (length-bitmap_of runs first size) ∙ bytes_as_bits size in
    let product : top * 256 ^ length low ≡ 2 ^ (8 * size) * top =
    ap (λ (p : ℕ). top * p) power ∙ mul_comm top (2 ^ (8 * size)) in
    let split = bits_split runs first (8 * size) 8 in
    let count : 8 * suc size ≡ 8 * size + 8 = omega arith in
    let whole : bits_of runs first (8 * suc size) ≡ bits_of runs first (8 * size + 8) =
    ap (bits_of runs first) count in
    number_of-cons top low ∙ ap (λ (n : ℕ). n + number_of low) product ∙ omega arith

-- the highest bit of the first byte is never set
pub top_bit_clear : (runs : List Span) (top : ℕ) → IsRuns runs → reach runs < 8 * top + 7
    → bits_of runs (first_of runs + 8 * top) 8 < 128
top_bit_clear runs top r lt =
    let base : ℕ = first_of runs + 8 * top in
    let split = bits_split runs base 7 1 in
    let low = bits_of_lt runs base 7 in
    let clear : has runs (base + 7) ≡ false =
    false_from_ne_true (has runs (base + 7)) (λ yes.
    let within = names_within runs (base + 7) r ((has_names runs (base + 7)).0 yes) in
    absurd (omega (arith, within.1))) in
    let bit : cond {A = ℕ} (has runs (base + 7)) 1 0 ≡ 0 =
    ap (λ (b : Bool). cond {A = ℕ} b 1 0) clear in
    omega arith
