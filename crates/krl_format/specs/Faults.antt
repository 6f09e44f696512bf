-- The facts about the text that the fault of a reading states.
use Rattle.std.specs.Prelude.{◌≡◌, ℕ, ◌⊎◌, Bool, true, false, List}
use Rattle.std.specs.Prelude.{◌++◌, Option, Some, None}
use Rattle.krl_types.specs.declared.krl_fault.KrlFault.{KrlFault}
use Rattle.krl_types.specs.declared.krl_fault.KrlFault.TheVariants.{EndsEarly, Read}
use Rattle.krl_types.specs.declared.krl_fault.KrlFault.TheVariants.{NoMemory}
use Rattle.krl_format.specs.Front.{IsFirstKrlFault}
use Rattle.krl_format.specs.Memory.{MayLackMemory}

-- The reader failed after it gave the first bytes of the text, and has the later bytes left. The
-- bytes that it gave have no fault, or end early.
pub record FailsAfter (text : List ℕ) (failed : Bool) (left : Option (List ℕ)) : Type 0 where
  pub given : List ℕ
  pub later : List ℕ
  pub parts : text ≡ given ++ later
  pub left_is : left ≡ Some later
  pub failed_is : failed ≡ true
  pub reported : IsFirstKrlFault given None ⊎ IsFirstKrlFault given (Some EndsEarly)

-- A fault says this about a text, if it is known whether the reader failed and which bytes it has
-- left. An allocation fails only for a field that may need memory.
pub data Says (fault : KrlFault) (text : List ℕ) (failed : Bool) (left : Option (List ℕ))
    : Type 0 where
  ran_out : fault ≡ NoMemory → MayLackMemory text → failed ≡ false → Says fault text failed left
  failed_read : fault ≡ Read → FailsAfter text failed left → Says fault text failed left
  first : IsFirstKrlFault text (Some fault) → failed ≡ false → Says fault text failed left
