-- The current authority.
use Rattle.std.specs.Prelude.{ℕ, List, [], Option, Some, None, unwrap_or}
use Rattle.krl_spec.specs.declared.under.Under.{Under}
use Rattle.krl_spec.specs.declared.under.Under.TheVariants.{NotGiven, All, Of}

-- the current authority, which is empty for all authorities
abbrev pub authority_under : Under → Option (List ℕ)
authority_under NotGiven = None
authority_under All = Some []
authority_under (Of bytes) = Some bytes.now

-- The bytes of the current authority: empty for all authorities, and if none is given.
abbrev pub bytes_under : Option (List ℕ) → List ℕ
bytes_under authority = unwrap_or authority []
