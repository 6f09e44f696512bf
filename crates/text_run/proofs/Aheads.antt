-- A byte before those of a reader.
use Rattle.std.proofs.Common.{◌≡◌, ℕ, ◌<◌, List, [], ◌∷◌, length, take, slice_set, Option, None, Some, refl, arith}
use Rattle.std.specs.Io.KnownBytes.{Consumes, IsAtEnd}
use Rattle.byte_streams.specs.Pull.{after_ahead}

pub first_given : (first : Option ℕ) (byte : ℕ) (left : Option (List ℕ)) (into : List ℕ) → first ≡ Some byte → 0 < length into
    → Consumes (after_ahead first left) left (take 1 (slice_set into 0 byte)) × (◌≡◌ {A = ℕ} 1 0 → 0 < length (slice_set into 0 byte) → IsAtEnd left)
first_given first byte left [] is some = absurd (omega (arith, some))
first_given first byte None (b ∷ into) is some = rw is (tt, λ never. absurd (cc never))
first_given first byte (Some left) (b ∷ into) is some = rw is (refl, λ never. absurd (cc never))
