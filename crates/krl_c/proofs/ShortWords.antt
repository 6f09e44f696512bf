-- No words are longer than 64 bytes.
use Rattle.std.proofs.Common.{◌+◌, ◌≤◌, arith, Bool, false, IfSome, length, length-append, List, negsuc, None, Option, pos, Some, suc, true, ℕ, ℤ}
use Rattle.std.specs.Prelude.{◌/◌, ◌%◌, ◌==◌, codes, if◌then◌else◌}
use Rattle.std.specs.Fmt.{digits}
use Rattle.krl_c.specs.Words.{behind, cert_words, key_words, line_words, list_words, or_unknown, plain_words, refusal, words}

-- there are no words, or they have at most this many bytes
pub record IsWithin (most : ℕ) (text : Option (List ℕ)) : Type 0 where
  pub size : IfSome text (λ (words : List ℕ). length words ≤ most)

some : {most : ℕ} {text : List ℕ} → length text ≤ most → IsWithin most (Some text)
some size = record { size = size }

none : {most : ℕ} → IsWithin most None
none = record { size = tt }

-- the words of a row of a table, or the other rows
row : {most : ℕ} (here : Bool) (one other : Option (List ℕ)) → IsWithin most one → IsWithin most other → IsWithin most (if here then one else other)
row true one other is also = is
row false one other is also = also

of_list : (n : ℕ) → IsWithin 64 (list_words n)
unfolding digits
of_list n =
    row (n == 1) _ _ (some (omega arith)) (
    row (n == 2) _ _ (some (omega arith)) (
    row (n == 3) _ _ (some (omega arith)) (
    row (n == 4) _ _ (some (omega arith)) (
    row (n == 5) _ _ (some (omega arith)) (
    row (n == 6) _ _ (some (omega arith)) (
    row (n == 7) _ _ (some (omega arith)) (
    row (n == 8) _ _ (some (omega arith)) (
    row (n == 9) _ _ (some (omega arith)) (
    row (n == 10) _ _ (some (omega arith)) (
    row (n == 11) _ _ (some (omega arith)) (
    row (n == 12) _ _ (some (omega arith)) (
    row (n == 13) _ _ (some (omega arith)) (
    row (n == 15) _ _ (some (omega arith)) (
    row (n == 16) _ _ (some (omega arith)) (
    row (n == 17) _ _ (some (omega arith)) (
    row (n == 18) _ _ (some (omega arith)) none))))))))))))))))

of_line : (n : ℕ) → IsWithin 64 (line_words n)
of_line n = row (n == 1) _ _ (some (omega arith)) (row (n == 2) _ _ (some (omega arith)) (row (n == 3) _ _ (some (omega arith)) none))

of_key : (n : ℕ) → IsWithin 30 (key_words n)
of_key n =
    row (n == 2) _ _ (some (omega arith)) (
    row (n == 3) _ _ (some (omega arith)) (
    row (n == 4) _ _ (some (omega arith)) (
    row (n == 5) _ _ (some (omega arith)) (
    row (n == 6) _ _ (some (omega arith)) (
    row (n == 7) _ _ (some (omega arith)) (
    row (n == 8) _ _ (some (omega arith)) (
    row (n == 11) _ _ (some (omega arith)) (
    row (n == 12) _ _ (some (omega arith)) (
    row (n == 13) _ _ (some (omega arith)) none)))))))))

of_cert : (n : ℕ) → IsWithin 48 (cert_words n)
of_cert n =
    row (n == 1) _ _ (some (omega arith)) (
    row (n == 2) _ _ (some (omega arith)) (
    row (n == 4) _ _ (some (omega arith)) (
    row (n == 5) _ _ (some (omega arith)) (
    row (n == 6) _ _ (some (omega arith)) (
    row (n == 8) _ _ (some (omega arith)) (
    row (n == 9) _ _ (some (omega arith)) (
    row (n == 10) _ _ (some (omega arith)) none)))))))

of_plain : (n : ℕ) → IsWithin 64 (plain_words n)
of_plain n = row (n == 1) _ _ (some (omega arith)) (row (n == 2) _ _ (some (omega arith)) none)

-- the words after a head
after : (head : List ℕ) (most : ℕ) (tail : Option (List ℕ)) → length head + most ≤ 64 → IsWithin most tail → IsWithin 64 (behind head tail)
after head most None room is = none
after head most (Some tail) room is = some (omega (arith, room, is.size, length-append head tail))

of_refusal : (n : ℕ) → IsWithin 64 (refusal n)
of_refusal n =
    row (n / 100 == 0) _ _ (of_plain (n % 100)) (
    row (n / 100 == 1) _ _ (of_list (n % 100)) (
    row (n / 100 == 2) _ _ (of_line (n % 100)) (
    row (n / 100 == 3) _ _ (after (codes "subject 1 Key, ") 30 (key_words (n % 100)) (omega arith) (of_key (n % 100))) (
    row (n / 100 == 4) _ _ (after (codes "subject 2 Cert, ") 48 (cert_words (n % 100)) (omega arith) (of_cert (n % 100))) (
    row (n / 100 == 5) _ _ (after (codes "subject 2 Cert, cert 3 Key, ") 30 (key_words (n % 100)) (omega arith) (of_key (n % 100))) (
    row (n / 100 == 6) _ _ (after (codes "subject 2 Cert, cert 7 Authority, ") 30 (key_words (n % 100)) (omega arith) (of_key (n % 100))) none))))))

known : (text : Option (List ℕ)) → IsWithin 64 text → length (or_unknown text) ≤ 64
known None is = omega arith
known (Some text) is = is.size

not_below : (fine revoked : Bool) → length (if fine then codes "ok" else (if revoked then codes "revoked" else or_unknown None)) ≤ 64
not_below true revoked = omega arith
not_below false true = omega arith
not_below false false = omega arith

pub short : (answer : ℤ) → length (words answer) ≤ 64
short (pos n) = not_below (n == 0) (n == 1)
short (negsuc n) = known (refusal (suc n)) (of_refusal (suc n))
