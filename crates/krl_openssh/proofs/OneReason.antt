-- A list has one reason why its names cannot be compared.
use Rattle.std.proofs.Common.{◌≡◌, List, Option, None, Some, refl}
use Rattle.krl_format.specs.Krl.{SpelledSection}
use Rattle.krl_openssh.specs.Comparable.{IsIncomparable}
use Rattle.krl_openssh.specs.declared.authorities.Incomparable.{Incomparable}
use Rattle.krl_openssh.specs.declared.authorities.Incomparable.TheVariants as reasons

pub one_reason : (sections : List SpelledSection) (one other : Option Incomparable) → IsIncomparable sections one → IsIncomparable sections other → one ≡ other
one_reason sections None None is also = refl
one_reason sections None (Some reasons.Authority) is also = absurd (also is.0)
one_reason sections None (Some reasons.KeyId) is also = absurd (also.1 is.1)
one_reason sections (Some reasons.Authority) None is also = absurd (is also.0)
one_reason sections (Some reasons.Authority) (Some reasons.Authority) is also = refl
one_reason sections (Some reasons.Authority) (Some reasons.KeyId) is also = absurd (is also.0)
one_reason sections (Some reasons.KeyId) None is also = absurd (is.1 also.1)
one_reason sections (Some reasons.KeyId) (Some reasons.Authority) is also = absurd (also is.0)
one_reason sections (Some reasons.KeyId) (Some reasons.KeyId) is also = refl
