-- A number that is not negative has one magnitude and one shortest spelling.
use Rattle.std.proofs.Common.{◌≡◌, ℕ, zero, suc, ◌+◌, ◌-◌, ◌*◌, ◌^◌, ◌<◌, ◌≤◌, List, [], ◌∷◌}
use Rattle.std.proofs.Common.{length, refl, sym, ap, subst, ◌∙◌, arith, inl, inr}
use Rattle.std.proofs.Math.Nat.{mul-le-mul_right, pow-succ'}
use Rattle.std.proofs.lemmas.Bool.{cases_lt, lt-ltb, le-ltb}
use Rattle.byteorder.specs.Endian.{big_number}
use Rattle.byteorder.specs.Numbers.{big_from-cons, big_from-lt}
use Rattle.ssh_wire.specs.Wire.{IsBytes, IsMagnitude, IsMpint, IsShortest, complement, mpint}
use Rattle.ssh_wire.specs.Wire.{number_of, string}
use Rattle.ssh_wire.specs.Laws.{HasMpint}
use Rattle.ssh_wire.proofs.Digits.{IsBytes-tail, same_bytes}
use Rattle.ssh_wire.proofs.Fields.{IsBytes-in_string}

-- the number of a first byte followed by bytes
pub number_of-cons : (byte : ℕ) (bytes : List ℕ)
    → number_of (byte ∷ bytes) ≡ byte * 256 ^ length bytes + number_of bytes
unfolding number_of
number_of-cons byte bytes = ap (λ (n : ℕ). byte * 256 ^ length bytes + n)
    (big_from-cons 0 (length bytes) byte bytes)

pub number_of-lt : (bytes : List ℕ) → IsBytes bytes → number_of bytes < 256 ^ length bytes
unfolding number_of
number_of-lt bytes fits = big_from-lt 0 (length bytes) bytes fits

-- a leading zero byte adds nothing
pub number_of-complement : (magnitude : List ℕ)
    → number_of (complement magnitude) ≡ number_of magnitude
unfolding complement
number_of-complement [] = refl
number_of-complement (byte ∷ bytes) =
    elim (cases_lt byte 128) [
      | inl lt ↦ rw (lt-ltb byte 128 lt) refl
      | inr le ↦ rw (le-ltb byte 128 le) (omega (arith, number_of-cons 0 (byte ∷ bytes)))
    ]

-- a leading zero byte makes it one byte longer
pub complement_fits : (magnitude : List ℕ) → length magnitude + 1 < 2 ^ 32
    → length (complement magnitude) < 2 ^ 32
unfolding complement
complement_fits [] fits = omega arith
complement_fits (byte ∷ bytes) fits =
    elim (cases_lt byte 128) [
      | inl lt ↦ rw (lt-ltb byte 128 lt) (omega arith)
      | inr le ↦ rw (le-ltb byte 128 le) (omega arith)
    ]

-- a number is at least as large as its length implies
pub number_of-ge : (byte : ℕ) (bytes : List ℕ) → 0 < byte
    → 256 ^ length bytes ≤ number_of (byte ∷ bytes)
number_of-ge byte bytes h =
    let top : 1 * 256 ^ length bytes ≤ byte * 256 ^ length bytes =
    mul-le-mul_right (256 ^ length bytes) (omega arith) in
    omega (arith, number_of-cons byte bytes)

pow_grows : (i more : ℕ) → 256 ^ i ≤ 256 ^ (i + more)
pow_grows i zero =
    let same : 256 ^ (i + 0) ≡ 256 ^ i = ap (λ (k : ℕ). 256 ^ k) (omega arith) in
    omega arith
pow_grows i (suc more) =
    let before = pow_grows i more in
    let step : 256 ^ (i + suc more) ≡ 256 * 256 ^ (i + more) =
    ap (λ (k : ℕ). 256 ^ k) (omega arith) ∙ pow-succ' 256 (i + more) in
    omega (arith, step)

shorter : (small large : List ℕ) → IsBytes small → IsMagnitude large → length small < length large
    → number_of small < number_of large
shorter small [] fits h lt = absurd (omega arith)
shorter small (byte ∷ bytes) fits h lt =
    let grows : 256 ^ length small ≤ 256 ^ (length small + (length bytes - length small)) =
    pow_grows (length small) (length bytes - length small) in
    let same : 256 ^ (length small + (length bytes - length small)) ≡ 256 ^ length bytes =
    ap (λ (k : ℕ). 256 ^ k) (omega arith) in
    omega (arith, number_of-lt small fits, number_of-ge byte bytes h, grows, same)

-- a number has one magnitude
pub same_magnitude : (one other : List ℕ) → IsBytes one → IsBytes other → IsMagnitude one
    → IsMagnitude other → number_of one ≡ number_of other → one ≡ other
unfolding number_of
same_magnitude one other one_fits other_fits one_is other_is e =
    elim (cases_lt (length one) (length other)) [
      | inl lt ↦ absurd (omega (arith, e, shorter one other one_fits other_is lt))
      | inr le ↦
          elim (cases_lt (length other) (length one)) [
            | inl lt ↦ absurd (omega (arith, e, shorter other one other_fits one_is lt))
            | inr ge ↦
                let len : length one ≡ length other = omega arith in
                same_bytes (length other) one other len refl one_fits other_fits
                (ap (λ (k : ℕ). big_number k one) (sym len) ∙ e)
          ]
    ]

-- ---- the shortest spelling

IsShortest-complement : (magnitude : List ℕ) → IsMagnitude magnitude
    → IsShortest (complement magnitude)
unfolding complement
IsShortest-complement [] h = tt
IsShortest-complement (byte ∷ []) h =
    elim (cases_lt byte 128) [
      | inl lt ↦ rw (lt-ltb byte 128 lt) (h, lt)
      | inr le ↦ rw (le-ltb byte 128 le) (omega arith, λ e. le)
    ]
IsShortest-complement (byte ∷ next ∷ bytes) h =
    elim (cases_lt byte 128) [
      | inl lt ↦ rw (lt-ltb byte 128 lt) (lt, λ e. absurd (omega arith))
      | inr le ↦ rw (le-ltb byte 128 le) (omega arith, λ e. le)
    ]

-- the magnitude of a shortest spelling
record HasMagnitude (bytes : List ℕ) : Type 0 where
  pub magnitude : List ℕ
  pub is_magnitude : IsMagnitude magnitude
  pub spelled : bytes ≡ complement magnitude

has_magnitude : (bytes : List ℕ) → IsShortest bytes → HasMagnitude bytes
unfolding complement
has_magnitude [] h = record { magnitude = []; is_magnitude = tt; spelled = refl }
has_magnitude (zero ∷ []) h = absurd (omega arith)
has_magnitude (suc byte ∷ []) h = record {
  magnitude = suc byte ∷ [];
  is_magnitude = h.0;
  spelled =
      rw (lt-ltb (suc byte) 128 h.1) refl;
}
has_magnitude (zero ∷ next ∷ bytes) h =
    let le : 128 ≤ next = h.1 refl in
    record {
      magnitude = next ∷ bytes;
      is_magnitude = omega arith;
      spelled =
          rw (le-ltb next 128 le) refl;
    }
has_magnitude (suc byte ∷ next ∷ bytes) h = record {
  magnitude =
      suc byte ∷ next ∷ bytes;
  is_magnitude = omega arith;
  spelled =
      rw (lt-ltb (suc byte) 128 h.0) refl;
}

-- the spelling of a magnitude is the shortest spelling of its number
pub mpint-is : (magnitude : List ℕ) → IsMagnitude magnitude
    → length (complement magnitude) < 2 ^ 32 → IsMpint (mpint magnitude) (number_of magnitude)
unfolding mpint
mpint-is magnitude h fits = record {
  bytes = complement magnitude;
  spelled = refl;
  fits =
      fits;
  shortest = IsShortest-complement magnitude h;
  value =
      sym (number_of-complement magnitude);
}

pub IsBytes-complement : (magnitude : List ℕ) → IsBytes (complement magnitude) → IsBytes magnitude
unfolding complement
IsBytes-complement [] fits = fits
IsBytes-complement (byte ∷ bytes) fits =
    elim (cases_lt byte 128) [
      | inl lt ↦ rw (lt-ltb byte 128 lt) at fits
      | inr le ↦ IsBytes-tail 0 (byte ∷ bytes) (rw (le-ltb byte 128 le) at fits)
    ]

-- each shortest spelling has a magnitude
pub mpint-has : (text : List ℕ) (n : ℕ) → IsBytes text → IsMpint text n → HasMpint text n
unfolding mpint
mpint-has text n fits is =
    let found = has_magnitude is.bytes is.shortest in
    let spelled : text ≡ string (complement found.magnitude) =
    is.spelled ∙ ap string found.spelled in
    record {
      magnitude = found.magnitude;
      is_bytes = IsBytes-complement found.magnitude
          (IsBytes-in_string (complement found.magnitude) (subst IsBytes spelled fits));
      is_magnitude = found.is_magnitude;
      fits = subst (λ (b : List ℕ). length b < 2 ^ 32) found.spelled is.fits;
      value = is.value ∙ ap number_of found.spelled ∙ number_of-complement found.magnitude;
      spelled = spelled;
    }

-- and is the spelling of each magnitude of its number
pub mpint-only : (text magnitude : List ℕ) → IsBytes text → IsBytes magnitude
    → IsMagnitude magnitude → IsMpint text (number_of magnitude) → text ≡ mpint magnitude
mpint-only text magnitude text_fits fits h is =
    let found = mpint-has text (number_of magnitude) text_fits is in
    found.spelled
    ∙ ap mpint
    (same_magnitude found.magnitude magnitude found.is_bytes fits found.is_magnitude h
    (sym found.value))
