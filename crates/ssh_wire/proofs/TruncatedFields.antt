-- Spellings that are truncated.
use Rattle.std.proofs.Common.{◌≡◌, ℕ, ◌+◌, ◌-◌, ◌^◌, ◌<◌, ◌≤◌, List, ◌++◌, length, take, drop, Err}
use Rattle.std.proofs.Common.{refl, sym, ap, ◌∙◌, arith, inl, inr}
use Rattle.std.proofs.Math.Seq.{take-append-add}
use Rattle.std.proofs.lemmas.Bool.{cases_lt, lt-ltb}
use Rattle.std.proofs.lemmas.List.{take_at, take-append-drop, take-append-le}
use Rattle.std.proofs.lemmas.List.{length-append, length-drop}
use Rattle.ssh_wire.specs.declared.fault.WireFault.TheVariants.{Short}
use Rattle.ssh_wire.specs.Laws.{IsShortWhereCut}
use Rattle.ssh_wire.specs.Wire.{complement, mpint, number, string}
use Rattle.ssh_wire.specs.Reading.{content_at, front_at, magnitude_at, mpint_at, number_at}
use Rattle.ssh_wire.specs.Reading.{string_at}
use Rattle.ssh_wire.proofs.Fields.{length-number, number_again}

-- fewer than k bytes
pub number-short : (k : ℕ) (front : List ℕ) → length front < k → number_at k front ≡ Err Short
unfolding number_at
number-short k front lt = rw (lt-ltb (length front) k lt) refl

front-short : (size : ℕ) (front : List ℕ) → length front < size → front_at size front ≡ Err Short
unfolding front_at
front-short size front lt = rw (lt-ltb (length front) size lt) refl

pub number-cut : (k n : ℕ) → IsShortWhereCut (number_at k) (number k n)
number-cut k n front rest parts some =
    number-short k front (omega (
      arith,
      ap length parts,
      length-number k n,
      length-append front rest,
    ))

-- a prefix that ends after the front
pub take-after : (front after : List ℕ) (n : ℕ) → length front ≤ n
    → take n (front ++ after) ≡ front ++ take (n - length front) after
take-after front after n le =
    let size : n ≡ length front + (n - length front) = omega arith in
    ap (λ (k : ℕ). take k (front ++ after)) size
    ∙ take-append-add front after (n - length front)

-- of two fronts of one list, the longer begins with the shorter
after_front : (head text front rest : List ℕ) → head ++ text ≡ front ++ rest
    → length head ≤ length front → front ≡ head ++ drop (length head) front
after_front head text front rest parts long =
    let same : take (length head) front ≡ head =
    sym (take-append-le (length head) front rest long) ∙ ap (take (length head)) (sym parts)
    ∙ take_at head text (length head) refl in
    sym (take-append-drop (length head) front)
    ∙ ap (λ (l : List ℕ). l ++ drop (length head) front) same

pub string-cut : (text : List ℕ) → length text < 2 ^ 32 → IsShortWhereCut string_at (string text)
unfolding string string_at
string-cut text fits front rest parts some =
    let head : List ℕ = number 4 (length text) in
    let four : length head ≡ 4 = length-number 4 (length text) in
    elim (cases_lt (length front) 4) [
      | inl lt ↦ rw (number-short 4 front lt) refl
      | inr le ↦
          let whole : front ≡ head ++ drop (length head) front =
          after_front head text front rest parts (omega arith) in
          let less : length (drop (length head) front) < length text =
          omega (
            arith,
            ap length parts,
            length-append head text,
            length-append front rest,
            length-drop (length head) front,
          ) in
          ap (λ (l : List ℕ). content_at (number_at 4 l)) whole
          ∙ rw (number_again 4 (length text) (drop (length head) front) (omega arith))
          (front-short (length text) (drop (length head) front) less)
    ]

pub mpint-cut : (magnitude : List ℕ) → length (complement magnitude) < 2 ^ 32
    → IsShortWhereCut mpint_at (mpint magnitude)
unfolding mpint mpint_at
mpint-cut magnitude fits front rest parts some =
    ap magnitude_at (string-cut (complement magnitude) fits front rest parts some)
