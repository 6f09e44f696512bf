-- Tests that decide the same.
use Rattle.std.proofs.Common.{◌≡◌, ◌↔◌, Bool, true, false, refl, sym}

pub same_test : (a b : Bool) (P : Type 0) → (a ≡ true) ↔ P → (b ≡ true) ↔ P → a ≡ b
same_test true b P one other = sym (other.1 (one.0 refl))
same_test false true P one other = one.1 (other.0 refl)
same_test false false P one other = refl
