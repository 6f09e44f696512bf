-- The bits of reasons.
use Rattle.std.proofs.Common.{◌%◌, ◌/◌, ◌^◌}
use Rattle.krl_entries.proofs.Common.{[], ◌*◌, ◌<◌, ◌≤◌, ◌==◌, ◌∙◌, ◌∷◌, ◌≡◌, ap, arith}
use Rattle.krl_entries.proofs.Common.{bit_at, bit_of, bits_in, Bool, drop, every_reason, false, false≢true}
use Rattle.krl_entries.proofs.Common.{IsTrue, length, List, map, position_of, refl, subst, suc, with_bit, zero, ℕ}
use Rattle.std.specs.Prelude.{nat_lt, slice_index_or, true}
use Rattle.std.proofs.lemmas.Bool.Decides.{Decides-ltb}
use Rattle.std.proofs.lemmas.Nat.{pow_pos}
use Rattle.std.proofs.Math.Nat.{pow-suc}
use Rattle.std.proofs.lemmas.Nat.Bits.{bit_at-suc, bit_at-zero, bit_at_lowest}
use Rattle.krl_entries.specs.declared.reasons.Reason.{Reason}
use Rattle.krl_entries.specs.declared.reasons.Reason.TheVariants as reasons

-- ---- one bit

halved : (bits : ℕ) (lowest : Bool) → with_bit bits lowest / 2 ≡ bits
halved bits true = omega arith
halved bits false = omega arith

rest_of : (bits : ℕ) (lowest : Bool) → with_bit bits lowest % 2 ≡ bit_of lowest
rest_of bits true = omega arith
rest_of bits false = omega arith

lowest_bit : (bits : ℕ) (lowest : Bool) → bit_at (with_bit bits lowest) 0 ≡ bit_of lowest
lowest_bit bits lowest = bit_at_lowest (with_bit bits lowest) ∙ rest_of bits lowest

higher_bit : (bits position : ℕ) (lowest : Bool) → bit_at (with_bit bits lowest) (suc position) ≡ bit_at bits position
higher_bit bits position lowest = bit_at-suc (with_bit bits lowest) position ∙ ap (λ (n : ℕ). bit_at n position) (halved bits lowest)

is_one : (set : Bool) → (bit_of set == 1) ≡ set
is_one true = refl
is_one false = refl

-- ---- all bits

flag_at : List Bool → ℕ → Bool
flag_at [] position = false
flag_at (flag ∷ flags) zero = flag
flag_at (flag ∷ flags) (suc position) = flag_at flags position

bit_is : (flags : List Bool) (position : ℕ) → bit_at (bits_in flags) position ≡ bit_of (flag_at flags position)
unfolding flag_at
bit_is [] position = bit_at-zero position
bit_is (flag ∷ flags) zero = lowest_bit (bits_in flags) flag
bit_is (flag ∷ flags) (suc position) = higher_bit (bits_in flags) position flag ∙ bit_is flags position

flag_is : (f : Reason → Bool) (reason : Reason) → flag_at (map f every_reason) (position_of reason) ≡ f reason
unfolding flag_at
flag_is f reasons.Key = refl
flag_is f reasons.KeySha1 = refl
flag_is f reasons.KeySha256 = refl
flag_is f reasons.Authority = refl
flag_is f reasons.AuthoritySha1 = refl
flag_is f reasons.AuthoritySha256 = refl
flag_is f reasons.Serial = refl
flag_is f reasons.SerialOfAll = refl
flag_is f reasons.KeyId = refl
flag_is f reasons.KeyIdOfAll = refl

-- the bit of a reason is set exactly if the reason passes the test
pub reason_bit : (f : Reason → Bool) (reason : Reason) → (bit_at (bits_in (map f every_reason)) (position_of reason) == 1) ≡ f reason
reason_bit f reason =
    ap (λ (n : ℕ). n == 1) (bit_is (map f every_reason) (position_of reason) ∙ ap bit_of (flag_is f reason)) ∙ is_one (f reason)

-- ---- some bit

-- a bit of 0 is not set
pub no_bit : (bits position : ℕ) → IsTrue (bit_at bits position == 1) → IsTrue (nat_lt 0 bits)
no_bit zero position set = absurd (false≢true (subst (λ (n : ℕ). IsTrue (n == 1)) (bit_at-zero position) set))
no_bit (suc bits) position set = (Decides-ltb 0 (suc bits)).1 (omega arith)

half : (bits : ℕ) → IsTrue (nat_lt 0 (with_bit bits false)) → IsTrue (nat_lt 0 bits)
half bits some = (Decides-ltb 0 bits).1 (omega (arith, (Decides-ltb 0 (with_bit bits false)).0 some))

-- if some bit is set, something passes the test
pub some_bit : {A : Type 0} (f : A → Bool) (xs : List A) → IsTrue (nat_lt 0 (bits_in (map f xs))) → (x : A) × IsTrue (f x)
some_bit f [] some = absurd (false≢true some)
some_bit f (x ∷ xs) some = by (f x) refl some (some_bit f xs)
  where
    by : (b : Bool) → f x ≡ b → IsTrue (nat_lt 0 (with_bit (bits_in (map f xs)) b)) → (IsTrue (nat_lt 0 (bits_in (map f xs))) → (x : _) × IsTrue (f x)) → (x : _) × IsTrue (f x)
    by true is some others = (x, is)
    by false is some others = others (half (bits_in (map f xs)) some)

-- ---- the bits one after the other

pub next_bit : {A : Type 0} (f : A → Bool) (xs : List A) (i : ℕ) (d : A) → i < length xs → with_bit (bits_in (map f (drop (suc i) xs))) (f (slice_index_or xs i d)) ≡ bits_in (map f (drop i xs))
next_bit f [] i d lt = absurd (omega (arith, lt))
next_bit f (x ∷ xs) zero d lt = refl
next_bit f (x ∷ xs) (suc i) d lt = next_bit f xs i d (omega (arith, lt))

-- ---- the size of bits

with_bit_below : (bits limit twice : ℕ) (lowest : Bool) → bits < limit → twice ≡ limit * 2 → with_bit bits lowest < twice
with_bit_below bits limit twice true below is = omega (arith, below, is)
with_bit_below bits limit twice false below is = omega (arith, below, is)

pub bits_below : {A : Type 0} (f : A → Bool) (xs : List A) (count : ℕ) → length xs ≤ count → bits_in (map f xs) < 2 ^ count
bits_below f [] count fits = pow_pos count
bits_below f (x ∷ xs) zero fits = absurd (omega (arith, fits))
bits_below f (x ∷ xs) (suc count) fits = with_bit_below (bits_in (map f xs)) (2 ^ count) (2 ^ suc count) (f x) (bits_below f xs count (omega (arith, fits))) (pow-suc 2 count)

pub few_left : {A : Type 0} (xs : List A) (count : ℕ) → length (drop count xs) ≤ length xs
few_left xs zero = omega arith
few_left [] (suc count) = omega arith
few_left (x ∷ xs) (suc count) = omega (arith, few_left xs count)
