-- Intervals with exactly the serials of an entry.
use Rattle.krl_entries.proofs.Common.{[], ⊎_map, ◌++◌, ◌+◌, ◌-◌, ◌<◌, ◌↔◌, ◌∷◌, ◌≡◌, ◌≤◌, ◌⊎◌}
use Rattle.krl_entries.proofs.Common.{arith, bit_at, BitmapEntry, cases_lt, Contains, Covers}
use Rattle.krl_entries.proofs.Common.{covers_append, Entry, EntryNames, inl, inr, length}
use Rattle.krl_entries.proofs.Common.{length-append, List, RangeEntry, refl, SerialOf, SerialsEntry}
use Rattle.krl_entries.proofs.Common.{Span, subst, suc, sym, zero, ℕ}
use Rattle.std.proofs.lemmas.Nat.Bits.{bit_at-lt}
use Rattle.serial_set.specs.BitRuns.{BitNames}
use Rattle.serial_set.proofs.Bits.{bit_below}
use Rattle.krl_types.proofs.Equivalences.{contains_cons, iff_both, iff_or}
use Rattle.krl_types.proofs.Elements.{contains_none}
use Rattle.std.proofs.Math.Logic.Iff as Iff

-- ---- consecutive numbers

-- the serials from one number to another; 0 is no serial
pub serials_between : ℕ → ℕ → List Span
serials_between zero max = record { lo = 1; hi = max } ∷ []
serials_between (suc min) max = record { lo = suc min; hi = max } ∷ []

covers_between : (min max s : ℕ) → Covers (serials_between min max) s ↔ ((0 < s) × ((min ≤ s) × (s ≤ max)))
unfolding serials_between
covers_between zero max s = (λ h. elim h [ inl here ↦ (omega (arith, here.0), (omega arith, here.1)) | inr none ↦ absurd none ], λ h. inl (omega (arith, h.0), h.1.1))
covers_between (suc min) max s = (λ h. elim h [ inl here ↦ (omega (arith, here.0), (here.0, here.1)) | inr none ↦ absurd none ], λ h. inl (h.1.0, h.1.1))

length-between : (min max : ℕ) → length (serials_between min max) ≡ 1
unfolding serials_between
length-between zero max = refl
length-between (suc min) max = refl

-- ---- the bits of a byte, in pairs

pub pair : (first low high : ℕ) → List Span
pair first zero zero = []
pair first (suc low) zero = serials_between first first
pair first zero (suc high) = serials_between (first + 1) (first + 1)
pair first (suc low) (suc high) = serials_between first (first + 1)

-- the serial is the first number or the next one, by the bits that are set
abbrev InPair : (first low high s : ℕ) → Type 0
InPair first low high s = (0 < s) × (((s ≡ first) × (0 < low)) ⊎ ((s ≡ first + 1) × (0 < high)))

covers_pair : (first low high s : ℕ) → Covers (pair first low high) s ↔ InPair first low high s
unfolding pair
covers_pair first zero zero s = (λ h. absurd h, λ h. elim h.1 [ inl one ↦ absurd (omega (arith, one.1)) | inr next ↦ absurd (omega (arith, next.1)) ])
covers_pair first (suc low) zero s = Iff.trans (covers_between first first s) (
  λ b. (b.0, inl (omega (arith, b.1.0, b.1.1), omega arith)),
  λ h. elim h.1 [ inl one ↦ (h.0, (omega (arith, one.0), omega (arith, one.0))) | inr next ↦ absurd (omega (arith, next.1)) ],
)
covers_pair first zero (suc high) s = Iff.trans (covers_between (first + 1) (first + 1) s) (
  λ b. (b.0, inr (omega (arith, b.1.0, b.1.1), omega arith)),
  λ h. elim h.1 [ inl one ↦ absurd (omega (arith, one.1)) | inr next ↦ (h.0, (omega (arith, next.0), omega (arith, next.0))) ],
)
covers_pair first (suc low) (suc high) s = Iff.trans (covers_between first (first + 1) s) (
  λ b. (b.0, elim (cases_lt first s) [ inl above ↦ inr (omega (arith, b.1.1), omega arith) | inr same ↦ inl (omega (arith, b.1.0), omega arith) ]),
  λ h. elim h.1 [ inl one ↦ (h.0, (omega (arith, one.0), omega (arith, one.0))) | inr next ↦ (h.0, (omega (arith, next.0), omega (arith, next.0))) ],
)

length-pair : (first low high : ℕ) → length (pair first low high) ≤ 1
unfolding pair
length-pair first zero zero = omega arith
length-pair first (suc low) zero = omega (arith, length-between first first)
length-pair first zero (suc high) = omega (arith, length-between (first + 1) (first + 1))
length-pair first (suc low) (suc high) = omega (arith, length-between first (first + 1))

pair_at : (base byte at : ℕ) → List Span
pair_at base byte at = pair (base + at) (bit_at byte at) (bit_at byte (at + 1))

pub of_byte : (base byte : ℕ) → List Span
of_byte base byte = pair_at base byte 0 ++ (pair_at base byte 2 ++ (pair_at base byte 4 ++ pair_at base byte 6))

pair_names : (base byte at s : ℕ) → Covers (pair_at base byte at) s → BitNames base byte s
unfolding pair_at
pair_names base byte at s h =
    let in_pair = (covers_pair (base + at) (bit_at byte at) (bit_at byte (at + 1)) s).0 h in
    let named : (k : ℕ) → s ≡ base + k → 0 < bit_at byte k → BitNames base byte s = λ k e some.
    let place : s - base ≡ k = omega (arith, e) in
    let from : base ≤ s = omega (arith, e) in
    let set : bit_at byte k ≡ 1 = omega (arith, some, bit_at-lt byte k) in
    (in_pair.0, from, subst (λ (m : ℕ). bit_at byte m ≡ 1) (sym place) set) in
    elim in_pair.1 [ inl one ↦ named at one.0 one.1 | inr next ↦ named (at + 1) (omega (arith, next.0)) next.1 ]

pair_named : (base byte at s : ℕ) → BitNames base byte s → at ≤ s - base → s - base < at + 2 → Covers (pair_at base byte at) s
unfolding pair_at
pair_named base byte at s h from to =
    let bit : (k : ℕ) → s - base ≡ k → 0 < bit_at byte k = λ k e. omega (arith, subst (λ (m : ℕ). bit_at byte m ≡ 1) e h.2) in
    (covers_pair (base + at) (bit_at byte at) (bit_at byte (at + 1)) s).1 (
      h.0,
      ⊎_map (λ low. (omega (arith, h.1, low), bit at (omega (arith, low)))) (λ high. (omega (arith, h.1, high), bit (at + 1) (omega (arith, high)))) (cases_lt (s - base) (at + 1)),
    )

-- a serial of the byte is a serial of one of its pairs
in_byte : (base byte s : ℕ) → Covers (of_byte base byte) s
    ↔ (Covers (pair_at base byte 0) s ⊎ (Covers (pair_at base byte 2) s ⊎ (Covers (pair_at base byte 4) s ⊎ Covers (pair_at base byte 6) s)))
unfolding of_byte
in_byte base byte s =
    let p4 : List Span = pair_at base byte 4 in
    let p6 : List Span = pair_at base byte 6 in
    let p2 : List Span = pair_at base byte 2 in
    Iff.trans (covers_append (pair_at base byte 0) (p2 ++ (p4 ++ p6)) s) (iff_or Iff.rfl (Iff.trans (covers_append p2 (p4 ++ p6) s) (iff_or Iff.rfl (covers_append p4 p6 s))))

byte_names : (base byte s : ℕ) → byte < 256 → Covers (of_byte base byte) s ↔ BitNames base byte s
byte_names base byte s small = (
  λ h. elim ((in_byte base byte s).0 h) [
    | inl a ↦ pair_names base byte 0 s a
    | inr b ↦ elim b [ inl c ↦ pair_names base byte 2 s c | inr d ↦ elim d [ inl e ↦ pair_names base byte 4 s e | inr f ↦ pair_names base byte 6 s f ] ]
  ],
  λ h. (in_byte base byte s).1 (elim (cases_lt (s - base) 2) [
    | inl a ↦ inl (pair_named base byte 0 s h (omega arith) a)
    | inr a ↦ inr (elim (cases_lt (s - base) 4) [
      | inl b ↦ inl (pair_named base byte 2 s h a b)
      | inr b ↦ inr (elim (cases_lt (s - base) 6) [
        | inl c ↦ inl (pair_named base byte 4 s h b c)
        | inr c ↦ inr (pair_named base byte 6 s h c (bit_below byte 8 (s - base) small h.2))
      ])
    ])
  ]),
)

length-of_byte : (base byte : ℕ) → length (of_byte base byte) ≤ 4
unfolding of_byte pair_at
length-of_byte base byte =
    let p0 : List Span = pair_at base byte 0 in
    let p2 : List Span = pair_at base byte 2 in
    let p4 : List Span = pair_at base byte 4 in
    let p6 : List Span = pair_at base byte 6 in
    let a = length-append p0 (p2 ++ (p4 ++ p6)) in
    let b = length-append p2 (p4 ++ p6) in
    let c = length-append p4 p6 in
    let l0 : length p0 ≤ 1 = length-pair (base + 0) (bit_at byte 0) (bit_at byte (0 + 1)) in
    let l2 : length p2 ≤ 1 = length-pair (base + 2) (bit_at byte 2) (bit_at byte (2 + 1)) in
    let l4 : length p4 ≤ 1 = length-pair (base + 4) (bit_at byte 4) (bit_at byte (4 + 1)) in
    let l6 : length p6 ≤ 1 = length-pair (base + 6) (bit_at byte 6) (bit_at byte (6 + 1)) in
    omega arith

-- ---- entries

pub of_numbers : List ℕ → List Span
of_numbers [] = []
of_numbers (n ∷ numbers) = serials_between n n ++ of_numbers numbers

numbers_named : (numbers : List ℕ) (s : ℕ) → Covers (of_numbers numbers) s ↔ ((0 < s) × Contains numbers s)
unfolding of_numbers
numbers_named [] s = (λ h. absurd h, λ h. absurd (contains_none s h.1))
numbers_named (n ∷ numbers) s =
    let at : ((n ≤ s) × (s ≤ n)) ↔ (n ≡ s) = (λ h. omega (arith, h.0, h.1), λ e. (omega (arith, e), omega (arith, e))) in
    Iff.trans (covers_append (serials_between n n) (of_numbers numbers) s) (Iff.trans (iff_or (Iff.trans (covers_between n n s) (Iff.and Iff.rfl at)) (numbers_named numbers s))
    (Iff.trans iff_both (Iff.and Iff.rfl (Iff.symm (contains_cons n numbers s)))))

length-of_numbers : (numbers : List ℕ) → length (of_numbers numbers) ≡ length numbers
unfolding of_numbers
length-of_numbers [] = refl
length-of_numbers (n ∷ numbers) =
    omega (arith, length-append (serials_between n n) (of_numbers numbers), length-between n n, length-of_numbers numbers)

-- the authority under which an entry names serials
pub entry_authority : Entry → List ℕ
entry_authority (SerialsEntry authority numbers) = authority
entry_authority (RangeEntry authority min max) = authority
entry_authority (BitmapEntry authority offset number) = authority
entry_authority _ = []

pub intervals_of : Entry → List Span
intervals_of (SerialsEntry authority numbers) = of_numbers numbers
intervals_of (RangeEntry authority min max) = serials_between min max
intervals_of (BitmapEntry authority offset number) = of_byte offset number
intervals_of _ = []

-- the largest number of intervals of an entry
abbrev pub most : Entry → ℕ
most (SerialsEntry authority numbers) = length numbers
most (RangeEntry authority min max) = 1
most (BitmapEntry authority offset number) = 4
most _ = 0

-- a bitmap is one byte
abbrev pub IsByteOnly : Entry → Type 0
IsByteOnly (BitmapEntry authority offset number) = number < 256
IsByteOnly _ = Unit {0}

pub length-intervals : (entry : Entry) → length (intervals_of entry) ≤ most entry
unfolding intervals_of
length-intervals (SerialsEntry authority numbers) = omega (arith, length-of_numbers numbers)
length-intervals (RangeEntry authority min max) = omega (arith, length-between min max)
length-intervals (BitmapEntry authority offset number) = length-of_byte offset number
length-intervals entry = omega arith

pub interval_names : (entry : Entry) (a : List ℕ) (s : ℕ) → IsByteOnly entry → ((entry_authority entry ≡ a) × Covers (intervals_of entry) s) ↔ EntryNames entry (SerialOf a s)
unfolding entry_authority intervals_of
interval_names (SerialsEntry authority numbers) a s small = Iff.and Iff.rfl (numbers_named numbers s)
interval_names (RangeEntry authority min max) a s small = Iff.and Iff.rfl (covers_between min max s)
interval_names (BitmapEntry authority offset number) a s small = Iff.and Iff.rfl (byte_names offset number s small)
interval_names entry a s small = (λ h. absurd h.1, λ h. absurd h)
