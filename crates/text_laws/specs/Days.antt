-- The meaning of lines on different days.
use Rattle.std.specs.Prelude.{◌≡◌, ◌⊎◌, ℕ, Result, Ok, Err}
use Rattle.text_entries.specs.Says.{Over, Saying}
use Rattle.text_entries.specs.declared.standing.Standing.{Standing}
use Rattle.text_entries.specs.declared.text_cause.TextCause.{TextCause}

-- the same on another day
abbrev pub on_day : (today : ℕ) → Standing → Standing
on_day today standing = record standing { today = today }

-- The same authority is current, and authorities have the same names.
pub record StandsSame (one other : Standing) : Type 0 where
  pub current : one.current ≡ other.current
  pub names : one.names ≡ other.names

-- On a later day a line says the same, or it is over.
abbrev pub MayEnd : (earlier later : Result Saying TextCause) → Type 0
MayEnd (Ok saying) later = (later ≡ Ok saying) ⊎ (later ≡ Ok (Over saying))
MayEnd (Err cause) later = later ≡ Err cause
