-- A number of k bytes has one spelling: two lists of bytes of one length and one number are equal.
use Rattle.std.proofs.Common.{◌≡◌, ℕ, zero, suc, ◌+◌, ◌-◌, ◌*◌, ◌^◌, ◌<◌, ◌≤◌, List, [], ◌∷◌}
use Rattle.std.proofs.Common.{◌++◌, length, take, drop, refl, sym, ap, subst, ◌∙◌, arith, inl, inr}
use Rattle.std.proofs.Math.Nat.{add-mul, mod-eq_of_lt, mod-lt, mul-le-mul_right, pow-suc}
use Rattle.std.proofs.lemmas.Nat.{pow-add}
use Rattle.std.proofs.lemmas.Bool.{cases_lt}
use Rattle.std.proofs.lemmas.List.{append-nil, drop_at, get_or-drop, get_or-take, get_or_past}
use Rattle.std.proofs.lemmas.List.{length-take, take_at}
use Rattle.std.specs.Int.{byte_at, bytes_high_first}
use Rattle.byteorder.specs.Endian.{big_number, big_bytes}
use Rattle.byteorder.specs.Numbers.{big_from-bytes, big_from-cons, big_from-lt, big_from-take}
use Rattle.byteorder.specs.Numbers.{length-bytes_high_first}
use Rattle.ssh_wire.specs.Wire.{IsBytes}

pub IsBytes-take : (n : ℕ) (bytes : List ℕ) → IsBytes bytes → IsBytes (take n bytes)
IsBytes-take n bytes fits i =
    elim (cases_lt i n) [
      | inl lt ↦ rw (get_or-take n bytes i 0 lt) (fits i)
      | inr le ↦ rw (get_or_past (take n bytes) i 0 (omega (arith, length-take n bytes)))
          (omega arith)
    ]

pub IsBytes-drop : (n : ℕ) (bytes : List ℕ) → IsBytes bytes → IsBytes (drop n bytes)
IsBytes-drop n bytes fits i = rw get_or-drop (fits (n + i))

-- the slice of the bytes after the first n
pub IsBytes-after : (n : ℕ) (bytes : List ℕ) → IsBytes bytes
    → IsBytes (take (length bytes - n) (drop n bytes))
IsBytes-after n bytes fits = IsBytes-take (length bytes - n) (drop n bytes)
    (IsBytes-drop n bytes fits)

pub IsBytes-tail : (byte : ℕ) (bytes : List ℕ) → IsBytes (byte ∷ bytes) → IsBytes bytes
IsBytes-tail byte bytes fits i = fits (suc i)

pub IsBytes-cons : (byte : ℕ) (bytes : List ℕ) → byte < 256 → IsBytes bytes → IsBytes (byte ∷ bytes)
IsBytes-cons byte bytes lt fits zero = lt
IsBytes-cons byte bytes lt fits (suc i) = fits i

pub IsBytes-nil : IsBytes []
IsBytes-nil i = omega arith

pub IsBytes-append : (xs ys : List ℕ) → IsBytes xs → IsBytes ys → IsBytes (xs ++ ys)
IsBytes-append [] ys front following = following
IsBytes-append (x ∷ xs) ys front following = IsBytes-cons x (xs ++ ys) (front 0)
    (IsBytes-append xs ys (IsBytes-tail x xs front) following)

pub IsBytes-front : (front following : List ℕ) → IsBytes (front ++ following) → IsBytes front
IsBytes-front front following fits = subst IsBytes (take_at front following (length front) refl)
    (IsBytes-take (length front) (front ++ following) fits)

pub IsBytes-back : (front following : List ℕ) → IsBytes (front ++ following) → IsBytes following
IsBytes-back front following fits = subst IsBytes (drop_at front following (length front) refl)
    (IsBytes-drop (length front) (front ++ following) fits)

byte_at-lt : (k n : ℕ) → byte_at k n < 256
byte_at-lt zero n = mod-lt n (omega arith)
byte_at-lt (suc k) n = mod-lt _ (omega arith)

-- the bytes of a number are bytes
pub IsBytes-big : (k n : ℕ) → IsBytes (big_bytes k n)
IsBytes-big zero n = λ i. omega arith
IsBytes-big (suc k) n = IsBytes-cons (byte_at k n) (bytes_high_first k n) (byte_at-lt k n)
    (IsBytes-big k n)

-- a digit has eight bits
pub bytes_as_bits : (k : ℕ) → 256 ^ k ≡ 2 ^ (8 * k)
bytes_as_bits zero = refl
bytes_as_bits (suc k) =
    let more : 8 * suc k ≡ 8 * k + 8 = omega arith in
    pow-suc 256 k ∙ ap (λ (p : ℕ). p * 256) (bytes_as_bits k)
    ∙ sym (ap (λ (n : ℕ). 2 ^ n) more ∙ pow-add 2 (8 * k) 8)

-- the first digit of a number below p * p
first_digit : (p a b r s : ℕ) → r < p → s < p → a * p + r ≡ b * p + s → a ≡ b
first_digit p a b r s rp sp e =
    elim (cases_lt a b) [
      | inl lt ↦ let top : (a + 1) * p ≤ b * p =
          mul-le-mul_right p (omega arith) in absurd (omega (arith, add-mul a 1 p))
      | inr le ↦
          elim (cases_lt b a) [
            | inl lt ↦ let top : (b + 1) * p ≤ a * p =
                mul-le-mul_right p (omega arith) in absurd (omega (arith, add-mul b 1 p))
            | inr ge ↦ omega arith
          ]
    ]

pub same_bytes : (k : ℕ) (xs ys : List ℕ) → length xs ≡ k → length ys ≡ k → IsBytes xs → IsBytes ys
    → big_number k xs ≡ big_number k ys → xs ≡ ys
same_bytes zero [] [] xk yk xb yb e = refl
same_bytes zero (x ∷ xs) ys xk yk xb yb e = absurd (omega arith)
same_bytes zero [] (y ∷ ys) xk yk xb yb e = absurd (omega arith)
same_bytes (suc k) [] ys xk yk xb yb e = absurd (omega arith)
same_bytes (suc k) (x ∷ xs) [] xk yk xb yb e = absurd (omega arith)
same_bytes (suc k) (x ∷ xs) (y ∷ ys) xk yk xb yb e =
    let xe : big_number k xs < 256 ^ k = big_from-lt 0 k xs (IsBytes-tail x xs xb) in
    let ye : big_number k ys < 256 ^ k = big_from-lt 0 k ys (IsBytes-tail y ys yb) in
    let whole : x * 256 ^ k + big_number k xs ≡ y * 256 ^ k + big_number k ys =
    rw (← big_from-cons 0 k x xs, ← big_from-cons 0 k y ys) e in
    let first : x ≡ y = first_digit (256 ^ k) x y (big_number k xs) (big_number k ys) xe ye whole in
    let same : x * 256 ^ k ≡ y * 256 ^ k = ap (λ (a : ℕ). a * 256 ^ k) first in
    let others : xs ≡ ys = same_bytes k xs ys (omega arith) (omega arith) (IsBytes-tail x xs xb)
    (IsBytes-tail y ys yb) (omega arith) in
    cc

-- the bytes of the number of k bytes
pub big_bytes-number : (k : ℕ) (bytes : List ℕ) → k ≤ length bytes → IsBytes bytes
    → big_bytes k (big_number k bytes) ≡ take k bytes
big_bytes-number k bytes long fits =
    let n = big_number k bytes in
    let lt : big_number k bytes < 256 ^ k = big_from-lt 0 k bytes fits in
    let front : big_number k (take k bytes) ≡ big_number k bytes =
    big_from-take 0 k k bytes (omega arith) in
    let back : big_number k (big_bytes k n) ≡ n =
    ap (big_number k) (sym (append-nil (big_bytes k n))) ∙ big_from-bytes k n []
    ∙ mod-eq_of_lt lt in
    same_bytes k (big_bytes k n) (take k bytes) (length-bytes_high_first k n)
    (omega (arith, length-take k bytes)) (IsBytes-big k n) (IsBytes-take k bytes fits)
    (back ∙ sym front)
