-- The files and moments that a run has read, in their order.
use Rattle.std.specs.Prelude.{◌≡◌, ℕ, List, ◌++◌, Option, Some, None, Result}
use Rattle.run_faults.specs.declared.cause.Cause.{Cause}
use Rattle.audit_lines.specs.declared.why.Refusal.{Refusal}

pub data Reading : Type 0 where
  -- the bytes of the file of a list, or why they are not read
  ListRead : (name : List ℕ) → Result (List ℕ) Cause → Reading
  -- the content of a file of keys, or why it is not read
  KeysRead : (name : List ℕ) → Result (List ℕ) Refusal → Reading
  -- the present moment, in seconds since 1970, if the clock can be read
  ClockRead : Option ℕ → Reading

-- the readings so far, if they are known, and then more readings
abbrev pub told_more : Option (List Reading) → List Reading → Option (List Reading)
told_more None more = None
told_more (Some told) more = Some (told ++ more)

-- Exactly these readings were added, in this order, and `Are` is true of them.
pub record Tells (before after : Option (List Reading)) (Are : List Reading → Type 0) : Type 0
  where
    pub told : List Reading
    pub after_is : after ≡ told_more before told
    pub are : Are told
