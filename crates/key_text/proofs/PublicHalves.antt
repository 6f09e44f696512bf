-- The public key of a private container.
use Rattle.std.proofs.Common.{◌≡◌, ℕ, ◌-◌, List, length, true, arith, take, drop, nat_eq}
use Rattle.std.specs.List.{starts_with}
use Rattle.std.proofs.lemmas.Grind.{common_steps}
use Rattle.std.proofs.lemmas.List.{length-drop, take_all}
use Rattle.key_text.specs.Container.{magic}
use Rattle.key_text.specs.PublicHalf.{half_bytes, half_inside}

-- after the name of the format
pub bytes_after : (bytes : List ℕ) → starts_with nat_eq bytes magic ≡ true → half_inside (take (length bytes - 15) (drop 15 bytes)) ≡ half_bytes bytes
unfolding half_bytes
bytes_after bytes met = grind (arith, common_steps, length-drop, take_all)
