-- The lowest byte of a number below 256 is the number.
use Rattle.std.proofs.Common.{ℕ, [], ◌∷◌, ap}
use Rattle.std.proofs.Math.Nat.{mod-eq_of_lt}
use Rattle.ssh_wire.specs.Wire.{number}
use Rattle.ssh_wire.proofs.laws.byte_is_its_spelling.Goals as goal

pub returns : goal.returns
unfolding number
returns c = λ n lt. ap (λ (byte : ℕ). byte ∷ []) (mod-eq_of_lt lt)
