-- The numbers at the front of public fields.
use Rattle.std.proofs.Common.{◌≡◌, ℕ, ◌+◌, ◌-◌, ◌<◌, ◌≤◌, false, suc, List, length, Ok, ap, ◌∙◌, refl, arith}
use Rattle.std.specs.Prelude.{nat_lt}
use Rattle.std.proofs.lemmas.Bool.{le-ltb}
use Rattle.ssh_wire.specs.Reading.{mpint_at}
use Rattle.openssh_keys.specs.Judgement.{has_long_number, long_or}

-- the next number, and those behind it
pub next_number : (count i : ℕ) (bytes : List ℕ) → i < count → has_long_number (count - i) bytes ≡ long_or (has_long_number (count - (i + 1))) (mpint_at bytes)
unfolding has_long_number
next_number count i bytes h =
    let e : count - i ≡ suc (count - (i + 1)) = omega arith in
    ap (λ (n : ℕ). has_long_number n bytes) e

-- The next number is not long.
pub passed : (count i : ℕ) (bytes magnitude rest : List ℕ) → i < count → mpint_at bytes ≡ Ok (magnitude, rest) → length magnitude ≤ 2048
    → has_long_number (count - i) bytes ≡ has_long_number (count - (i + 1)) rest
passed count i bytes magnitude rest h read short =
    let is : nat_lt 2048 (length magnitude) ≡ false = le-ltb 2048 (length magnitude) short in
    next_number count i bytes h ∙ rw (read, is) refl

-- No number is left.
pub none_left : (count i : ℕ) (bytes : List ℕ) → count ≤ i → has_long_number (count - i) bytes ≡ false
unfolding has_long_number
none_left count i bytes h =
    let e : count - i ≡ 0 = omega arith in
    ap (λ (n : ℕ). has_long_number n bytes) e
