-- A test of bytes, and the length of what is at the front of bytes.
use Rattle.std.proofs.Common.{◌≡◌, ℕ, ◌+◌, ◌≤◌, true, List, [], ◌∷◌, ◌++◌, length, ap, ◌∙◌, arith, inl, inr}
use Rattle.std.specs.Prelude.{nat_lt}
use Rattle.std.specs.List.{list_all}
use Rattle.std.proofs.lemmas.Bool.{and_parts, cases_Bool, ltb-true}
use Rattle.std.proofs.lemmas.List.{length-append}
use Rattle.ssh_wire.specs.Wire.{IsBytes, complement, mpint}
use Rattle.ssh_wire.proofs.Digits.{IsBytes-cons, IsBytes-nil}
use Rattle.ssh_wire.proofs.Fields.{length-mpint}

pub IsBytes-test : (xs : List ℕ) → list_all (λ byte. nat_lt byte 256) xs ≡ true → IsBytes xs
IsBytes-test [] h = IsBytes-nil
IsBytes-test (x ∷ xs) h =
    let parts = and_parts (nat_lt x 256) (list_all (λ byte. nat_lt byte 256) xs) h in
    IsBytes-cons x xs (ltb-true x 256 parts.0) (IsBytes-test xs parts.1)

length-complement : (magnitude : List ℕ) → length magnitude ≤ length (complement magnitude)
unfolding complement
length-complement [] = omega arith
length-complement (byte ∷ bytes) = elim (cases_Bool (nat_lt byte 128)) [
  | inl small ↦ rw small (omega arith)
  | inr large ↦ rw large (omega arith)
]

pub mpint_within : (bytes magnitude rest : List ℕ) → bytes ≡ mpint magnitude ++ rest → length magnitude + length rest ≤ length bytes
mpint_within bytes magnitude rest e =
    let whole : length bytes ≡ length (mpint magnitude) + length rest = ap length e ∙ length-append (mpint magnitude) rest in
    omega (arith, whole, length-mpint magnitude, length-complement magnitude)
