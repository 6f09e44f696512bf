-- Why no list is made of texts.
use Rattle.std.specs.Prelude.{ℕ, List, Option, Some, None}
use Rattle.run_faults.specs.declared.cause.Cause.TheVariants as causes
use Rattle.run_faults.specs.declared.spec_cause.SpecCause.TheVariants as specs
use Rattle.text_entries.specs.Hint.{hint_at}
use Rattle.text_entries.specs.declared.hint.Hint.{Hint}
use Rattle.text_entries.specs.declared.text_cause.TextCause.{TextCause}
use Rattle.text_entries.specs.declared.text_cause.TextCause.TheVariants.{Spec}
use Rattle.text_run.specs.declared.make_fault.MakeCause.{MakeCause}
use Rattle.text_run.specs.declared.make_fault.MakeCause.TheVariants.{Run, Line}

-- the name of a text or of the list, the line of the text, why no list is made, and what the line
-- may be meant as
pub record MakeFault : Type 0 where
  pub name : List ℕ
  pub line : Option ℕ
  pub cause : MakeCause
  pub hint : Option Hint

abbrev pub whole_fault : List ℕ → MakeCause → MakeFault
whole_fault name cause = record { name = name; line = None; cause = cause; hint = None }

-- a fault of a line of a text; a failed allocation is a fault of the run itself, without a line
abbrev pub line_fault : List ℕ → List ℕ → ℕ → TextCause → MakeFault
line_fault name text number (Spec specs.NoMemory) = whole_fault name (Run causes.NoMemory)
line_fault name text number cause = record {
  name = name;
  line = Some number;
  cause = Line cause;
  hint = hint_at text number cause;
}
