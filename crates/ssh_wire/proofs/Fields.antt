-- Fields at the front of bytes: what a reader took is the spelling of its value, and each spelling is read.
use Rattle.std.proofs.Common.{◌≡◌, ℕ, zero, suc, ◌+◌, ◌-◌, ◌*◌, ◌^◌, ◌<◌, ◌≤◌, false}
use Rattle.std.proofs.Common.{ltb, List, [], ◌∷◌, ◌++◌, length, take, drop, Result, Ok, Err, refl}
use Rattle.std.proofs.Common.{sym, ap, subst, ◌∙◌, append_assoc, arith, inl, inr}
use Rattle.std.specs.Prelude.{IfOk}
use Rattle.std.specs.Borrow.{Bor}
use Rattle.std.specs.List.{flat_map}
use Rattle.std.proofs.lemmas.Bool.{cases_lt, lt-ltb, ltb-false, le-ltb}
use Rattle.std.proofs.lemmas.List.{append-nil, take_at, drop_at, take-append-drop, length-append, length-drop}
use Rattle.std.proofs.lemmas.List.{length-take, take_all}
use Rattle.byteorder.specs.Endian.{big_number}
use Rattle.byteorder.specs.Numbers.{big_from-lt, big_number-reads_back}
use Rattle.byteorder.specs.Numbers.{length-bytes_high_first}
use Rattle.ssh_wire.specs.declared.fault.WireFault.{WireFault}
use Rattle.ssh_wire.specs.declared.fault.WireFault.TheVariants.{Short}
use Rattle.ssh_wire.specs.Wire.{BeginsWith, IsBytes, IsMagnitude, complement, mpint, number}
use Rattle.ssh_wire.specs.Wire.{number_of, string}
use Rattle.ssh_wire.specs.Reading.{Lends, content_at, front_at, magnitude_at, magnitude_before}
use Rattle.ssh_wire.specs.Reading.{magnitude_of, mpint_at, number_at, string_at}
use Rattle.ssh_wire.proofs.Digits.{IsBytes-append, IsBytes-back, IsBytes-big, IsBytes-drop}
use Rattle.ssh_wire.proofs.Digits.{IsBytes-front, big_bytes-number}
use Rattle.ssh_wire.proofs.Steps.{guard_ok, ok_is}

-- The bytes are the text and then the rest.
pub record HasFront (bytes text rest : List ℕ) : Type 0 where
  pub parts : bytes ≡ text ++ rest
  pub rest_fits : IsBytes rest

pub HasFront-then : (a x b y c : List ℕ) → HasFront a x b → HasFront b y c → HasFront a (x ++ y) c
HasFront-then a x b y c p q = record {
  parts = p.parts ∙ ap (λ (t : List ℕ). x ++ t) q.parts
      ∙ sym (append_assoc x y c);
  rest_fits = q.rest_fits;
}

-- ---- numbers

pub length-number : (k n : ℕ) → length (number k n) ≡ k
unfolding number
length-number k n = length-bytes_high_first k n

pub length-numbers : (numbers : List ℕ) → length (flat_map (number 8) numbers) ≡ 8 * length numbers
length-numbers [] = refl
length-numbers (n ∷ numbers) =
    omega (
      arith,
      length-append (number 8 n) (flat_map (number 8) numbers),
      length-number 8 n,
      length-numbers numbers,
    )

pub number_takes : (k : ℕ) (bytes : List ℕ) (n : ℕ) (rest : List ℕ) → IsBytes bytes
    → number_at k bytes ≡ Ok (n, rest) → HasFront bytes (number k n) rest × (n < 256 ^ k)
unfolding number_at number
number_takes k bytes n rest fits e =
    let g = guard_ok (ltb (length bytes) k) Short (big_number k bytes, drop k bytes) (n, rest) e in
    let long : k ≤ length bytes = ltb-false _ _ g.0 in
    let n-is : big_number k bytes ≡ n = ap (λ (p : ℕ × List ℕ). p.0) g.1 in
    let rest-is : drop k bytes ≡ rest = ap (λ (p : ℕ × List ℕ). p.1) g.1 in
    let whole : HasFront bytes (number k (big_number k bytes)) (drop k bytes) =
    record {
      parts = rw (big_bytes-number k bytes long fits)
          (sym (take-append-drop k bytes));
      rest_fits = IsBytes-drop k bytes fits;
    } in
    subst (λ (p : ℕ × List ℕ). HasFront bytes (number k p.0) p.1 × (p.0 < 256 ^ k)) g.1
    (whole, big_from-lt 0 k bytes fits)

-- bytes split into the number of the first k and the slice after them
pub number_front : (k : ℕ) (bytes : List ℕ) (n : ℕ) → IsBytes bytes → k ≤ length bytes
    → n ≡ big_number k bytes → bytes ≡ number k n ++ take (length bytes - k) (drop k bytes)
unfolding number
number_front k bytes n fits long e =
    let rest : take (length bytes - k) (drop k bytes) ≡ drop k bytes =
    take_all _ _ (omega (arith, length-drop k bytes)) in
    rw (e, big_bytes-number k bytes long fits, rest) (sym (take-append-drop k bytes))

pub number_again : (k n : ℕ) (rest : List ℕ) → n < 256 ^ k
    → number_at k (number k n ++ rest) ≡ Ok (n, rest)
unfolding number_at number
number_again k n rest lt =
    let len = length-bytes_high_first k n in
    let long : ltb (length (number k n ++ rest)) k ≡ false =
    le-ltb _ _ (omega (arith, length-append (number k n) rest)) in
    rw (long, big_number-reads_back k n rest lt, drop_at (number k n) rest k len) refl

-- the bytes of the number that bytes spell
pub number-number_of : (size : ℕ) (bytes : List ℕ) → length bytes ≡ size → IsBytes bytes
    → (number size (number_of bytes) ≡ bytes) × (number_of bytes < 256 ^ size)
unfolding number number_of
number-number_of size bytes whole fits =
    let n = length bytes in
    let back = big_bytes-number n bytes (omega arith) fits ∙ take_all n bytes (omega arith) in
    subst (λ (k : ℕ). (number k (number_of bytes) ≡ bytes) × (number_of bytes < 256 ^ k)) whole
    (back, big_from-lt 0 n bytes fits)

-- the number that the bytes of a number spell
pub number_of-number : (size n : ℕ) → n < 256 ^ size → number_of (number size n) ≡ n
unfolding number number_of
number_of-number size n lt =
    let bytes = number size n in
    ap (λ (k : ℕ). big_number k bytes) (length-number size n)
    ∙ ap (big_number size) (sym (append-nil bytes)) ∙ big_number-reads_back size n [] lt

-- a byte is its own number
pub number_of-one : (byte : ℕ) → number_of (byte ∷ []) ≡ byte
unfolding number_of
number_of-one byte = omega arith

pub one_byte : (field : List ℕ) → length field ≡ 1 → field ≡ number_of field ∷ []
one_byte (a ∷ []) len = ap (λ (n : ℕ). n ∷ []) (sym (number_of-one a))
one_byte _ len = absurd (omega arith)

-- ---- strings

pub length-string : (text : List ℕ) → length (string text) ≡ 4 + length text
unfolding string
length-string text = omega (
  arith,
  length-append (number 4 (length text)) text,
  length-number 4 (length text),
)

pub IsBytes-string : (text : List ℕ) → IsBytes text → IsBytes (string text)
unfolding string number
IsBytes-string text fits = IsBytes-append (number 4 (length text)) text
    (IsBytes-big 4 (length text)) fits

pub IsBytes-in_string : (text : List ℕ) → IsBytes (string text) → IsBytes text
unfolding string
IsBytes-in_string text fits = IsBytes-back (number 4 (length text)) text fits

-- the bytes of a string at the front
pub IsBytes-content : (bytes text rest : List ℕ) → IsBytes bytes → bytes ≡ string text ++ rest
    → IsBytes text
IsBytes-content bytes text rest fits e =
    IsBytes-in_string text (IsBytes-front (string text) rest (subst IsBytes e fits))

pub front_takes : (size : ℕ) (bytes text rest : List ℕ) → IsBytes bytes
    → front_at size bytes ≡ Ok (text, rest) → HasFront bytes text rest × (length text ≡ size)
unfolding front_at
front_takes size bytes text rest fits e =
    let g = guard_ok (ltb (length bytes) size) Short (take size bytes, drop size bytes)
    (text, rest) e in
    let long : size ≤ length bytes = ltb-false _ _ g.0 in
    let whole : HasFront bytes (take size bytes) (drop size bytes) =
    record {
      parts = sym (take-append-drop size bytes);
      rest_fits =
          IsBytes-drop size bytes fits;
    } in
    subst (λ (p : List ℕ × List ℕ). HasFront bytes p.0 p.1 × (length p.0 ≡ size)) g.1
    (whole, omega (arith, length-take size bytes))

pub front_again : (text rest : List ℕ) → front_at (length text) (text ++ rest) ≡ Ok (text, rest)
unfolding front_at
front_again text rest =
    let long : ltb (length (text ++ rest)) (length text) ≡ false =
    le-ltb _ _ (omega (arith, length-append text rest)) in
    rw (long, take_at text rest (length text) refl, drop_at text rest (length text) refl) refl

-- bytes split into their string and the slice after it
pub string_front : (size : ℕ) (bytes text rest : List ℕ) → IsBytes bytes → 4 ≤ length bytes
    → size ≡ big_number 4 bytes → size ≤ length (take (length bytes - 4) (drop 4 bytes))
    → text ≡ take size (take (length bytes - 4) (drop 4 bytes))
    → rest ≡ drop size (take (length bytes - 4) (drop 4 bytes)) → bytes ≡ string text ++ rest
unfolding string
string_front size bytes text rest fits long size-is short text-is rest-is =
    let after : List ℕ = take (length bytes - 4) (drop 4 bytes) in
    let parts : after ≡ text ++ rest = rw (text-is, rest-is) (sym (take-append-drop size after)) in
    let len : length text ≡ size = ap length text-is ∙ omega (arith, length-take size after) in
    number_front 4 bytes size fits long size-is
    ∙ rw (parts, ← len) (sym (append_assoc (number 4 (length text)) text rest))

content_takes : (bytes text rest : List ℕ) (read : Result (ℕ × List ℕ) WireFault) → IsBytes bytes
    → number_at 4 bytes ≡ read → content_at read ≡ Ok (text, rest)
    → HasFront bytes (string text) rest × (length text < 2 ^ 32)
unfolding string
content_takes bytes text rest (Err fault) fits first second = absurd cc
content_takes bytes text rest (Ok (size, after)) fits first second =
    let t = number_takes 4 bytes size after fits first in
    let u = front_takes size after text rest t.0.rest_fits second in
    let both = HasFront-then bytes (number 4 size) after text rest t.0 u.0 in
    (subst (λ (k : ℕ). HasFront bytes (number 4 k ++ text) rest) (sym u.1) both, omega arith)

pub string_takes : (bytes text rest : List ℕ) → IsBytes bytes → string_at bytes ≡ Ok (text, rest)
    → HasFront bytes (string text) rest × (length text < 2 ^ 32)
unfolding string_at
string_takes bytes text rest fits e = content_takes bytes text rest (number_at 4 bytes) fits refl e

pub string_again : (text rest : List ℕ) → length text < 2 ^ 32
    → string_at (string text ++ rest) ≡ Ok (text, rest)
unfolding string_at string
string_again text rest lt =
    rw (
      append_assoc (number 4 (length text)) text rest,
      number_again 4 (length text) (text ++ rest) lt,
    ) (front_again text rest)

pub string_read : (bytes value : List ℕ) (b : BeginsWith bytes value)
    → string_at bytes ≡ Ok (value, b.rest)
string_read bytes value b = ap string_at b.spelled ∙ string_again value b.rest b.fits

-- ---- multiple precision integers

pub length-mpint : (magnitude : List ℕ) → length (mpint magnitude) ≡ 4 + length
    (complement magnitude)
unfolding mpint
length-mpint magnitude = length-string (complement magnitude)

pub magnitude_takes : (bytes magnitude : List ℕ) → magnitude_of bytes ≡ Ok magnitude
    → (bytes ≡ complement magnitude) × IsMagnitude magnitude
unfolding magnitude_of complement
magnitude_takes [] [] e = (refl, tt)
magnitude_takes [] (byte ∷ magnitude) e = absurd cc
magnitude_takes (zero ∷ []) magnitude e = absurd cc
magnitude_takes (zero ∷ next ∷ bytes) magnitude e =
    elim (cases_lt next 128) [
      | inl lt ↦ absurd (let h = rw (lt-ltb next 128 lt) at e in cc)
      | inr le ↦
          let test = le-ltb next 128 le in
          let same : next ∷ bytes ≡ magnitude = let h = rw test at e in cc in
          subst (λ (m : List ℕ). (0 ∷ next ∷ bytes ≡ complement m) × IsMagnitude m) same
          (rw test refl, omega arith)
    ]
magnitude_takes (suc byte ∷ bytes) magnitude e =
    elim (cases_lt (suc byte) 128) [
      | inl lt ↦
          let test = lt-ltb (suc byte) 128 lt in
          let same : suc byte ∷ bytes ≡ magnitude = let h = rw test at e in cc in
          subst (λ (m : List ℕ). (suc byte ∷ bytes ≡ complement m) × IsMagnitude m) same
          (rw test refl, omega arith)
      | inr le ↦ absurd (let h = rw (le-ltb (suc byte) 128 le) at e in cc)
    ]

pub magnitude_again : (magnitude : List ℕ) → IsMagnitude magnitude
    → magnitude_of (complement magnitude) ≡ Ok magnitude
unfolding magnitude_of complement
magnitude_again [] h = refl
magnitude_again (zero ∷ bytes) h = absurd (omega arith)
magnitude_again (suc byte ∷ bytes) h =
    elim (cases_lt (suc byte) 128) [
      | inl lt ↦ let test = lt-ltb (suc byte) 128 lt in rw (test, test) refl
      | inr le ↦ let test = le-ltb (suc byte) 128 le in rw (test, test) refl
    ]

-- bytes split into the magnitude of their string and the slice after it
pub mpint_front : (bytes text rest : List ℕ) (lent : Result (Bor (List ℕ)) WireFault)
    → bytes ≡ string text ++ rest → Lends lent (magnitude_of text)
    → IfOk lent (λ magnitude. (bytes ≡ mpint magnitude.now ++ rest) × IsMagnitude magnitude.now)
unfolding mpint
mpint_front bytes text rest (Ok magnitude) parts lends =
    let taken = magnitude_takes text magnitude.now lends in
    (parts ∙ ap (λ (t : List ℕ). string t ++ rest) taken.0, taken.1)
mpint_front bytes text rest (Err fault) parts lends = tt

before_takes : (text magnitude after rest : List ℕ) (read : Result (List ℕ) WireFault)
    → magnitude_of text ≡ read → magnitude_before read after ≡ Ok (magnitude, rest)
    → (text ≡ complement magnitude) × IsMagnitude magnitude × (after ≡ rest)
before_takes text magnitude after rest (Err fault) first second = absurd cc
before_takes text magnitude after rest (Ok found) first second =
    let same : found ≡ magnitude = ap (λ (p : List ℕ × List ℕ). p.0)
    (ok_is (found, after) (magnitude, rest) (Ok (found, after)) refl second) in
    let h = magnitude_takes text magnitude (first ∙ ap (λ (m : List ℕ). Ok m) same) in (
      h.0,
      h.1,
      ap (λ (p : List ℕ × List ℕ). p.1)
          (ok_is (found, after) (magnitude, rest) (Ok (found, after)) refl second),
    )

at_takes : (bytes magnitude rest : List ℕ) (read : Result (List ℕ × List ℕ) WireFault)
    → IsBytes bytes → string_at bytes ≡ read → magnitude_at read ≡ Ok (magnitude, rest)
    → HasFront bytes (mpint magnitude) rest × IsMagnitude magnitude
    × (length (complement magnitude) < 2 ^ 32)
unfolding mpint
at_takes bytes magnitude rest (Err fault) fits first second = absurd cc
at_takes bytes magnitude rest (Ok (text, after)) fits first second =
    let t = string_takes bytes text after fits first in
    let u = before_takes text magnitude after rest (magnitude_of text) refl second in
    let texts : HasFront bytes (string (complement magnitude)) after
    × (length (complement magnitude) < 2 ^ 32) =
    subst (λ (x : List ℕ). HasFront bytes (string x) after × (length x < 2 ^ 32)) u.0 t in (
      subst (λ (x : List ℕ). HasFront bytes (string (complement magnitude)) x) u.2 texts.0,
      u.1,
      texts.1,
    )

pub mpint_takes : (bytes magnitude rest : List ℕ) → IsBytes bytes
    → mpint_at bytes ≡ Ok (magnitude, rest) → HasFront bytes (mpint magnitude) rest
    × IsMagnitude magnitude × (length (complement magnitude) < 2 ^ 32)
unfolding mpint_at
mpint_takes bytes magnitude rest fits e = at_takes bytes magnitude rest
    (string_at bytes) fits refl e

pub mpint_again : (magnitude rest : List ℕ) → IsMagnitude magnitude
    → length (complement magnitude) < 2 ^ 32
    → mpint_at (mpint magnitude ++ rest) ≡ Ok (magnitude, rest)
unfolding mpint_at mpint
mpint_again magnitude rest h lt = rw (
  string_again (complement magnitude) rest lt,
  magnitude_again magnitude h,
) refl
