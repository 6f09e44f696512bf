-- The single serials of the bits of a number, from the lowest on.
use Rattle.std.specs.Prelude.{◌≡◌, ℕ, zero, suc, ◌+◌, ◌-◌, ◌/◌, ◌%◌, ◌<◌, ◌≤◌, Bool, true, false}
use Rattle.std.specs.Prelude.{nat_eq, List, [], ◌∷◌}
use Rattle.std.specs.Int.{bit_at}
use Rattle.serial_set.specs.declared.span.Span.{Span}

-- a single number before a list, if its bit is set
abbrev pub single_by : Bool → ℕ → List Span → List Span
single_by true base rest = record { lo = base; hi = base } ∷ rest
single_by false base rest = rest

-- each of the lowest `count` bits that is set, as the number that it represents
unfoldable pub singles : ℕ → ℕ → ℕ → List Span
singles zero base bits = []
singles (suc count) base bits =
    single_by (nat_eq (bits % 2) 1) base (singles count (base + 1) (bits / 2))

-- s is one of `count` numbers from base on, and its bit is set
abbrev pub BitCovers : ℕ → ℕ → ℕ → ℕ → Type 0
BitCovers count base bits s =
    (base ≤ s) × (s < base + count) × (bit_at bits (s - base) ≡ 1)
