-- How the list under a name changes.
use Rattle.std.specs.Prelude.{ℕ, ◌<◌, ◌⊎◌, List, Option}
use Rattle.run_faults.specs.declared.cause.Cause.{Cause}
use Rattle.run_faults.specs.declared.cause.Cause.TheVariants.{Output}

-- The list that a new one follows: there is none, or its bytes, if its reader knows them.
abbrev pub Old : Type 0
Old = Option (Option (List ℕ))

-- Each content that may have been under the name still may be there, or another program changed it.
-- A change by another program is not forgotten.
pub record IsKept {P : Type 0} (holds : P → Option (List ℕ) → Type 0) (overtaken : P → Type 0)
    (old new : P) : Type 0 where
  pub still : ((content : Option (List ℕ)) → holds old content → holds new content) ⊎ overtaken new
  pub later : overtaken old → overtaken new

-- A list was written in place up to this byte and not to its end.
abbrev pub IsCut : Cause → Type 0
IsCut (Output count) = 0 < count
IsCut cause = ⊥
