-- The number determines its magnitude.
use Rattle.std.proofs.Common.{List, ℕ, sym, subst}
use Rattle.ssh_wire.specs.Wire.{IsMpint, number_of}
use Rattle.ssh_wire.proofs.Magnitudes.{mpint-is, mpint-only}
use Rattle.ssh_wire.proofs.laws.mpint_is_shortest.Goals as goal

pub returns : goal.returns
returns c = λ text magnitude text_fits magnitude_fits h fits. (
  λ is. mpint-only text magnitude text_fits magnitude_fits h is,
  λ same. subst (λ (t : List ℕ). IsMpint t (number_of magnitude)) (sym same) (mpint-is magnitude h fits),
)
