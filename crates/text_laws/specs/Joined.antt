-- Texts of lists that follow one another.
use Rattle.std.specs.Prelude.{◌≡◌, ◌≢◌, ℕ, ◌+◌, ◌⊎◌, List, [], ◌++◌, codes, Option, Some, None}
use Rattle.std.specs.List.{count_by}
use Rattle.run_faults.specs.declared.spec_cause.SpecCause.TheVariants as specs
use Rattle.key_text.specs.Lines.{is_newline}
use Rattle.text_entries.specs.Lines.{fault_at, lines_with}
use Rattle.text_entries.specs.declared.standing.Standing.{Standing}
use Rattle.text_entries.specs.declared.text_cause.TextCause.TheVariants.{Spec}
use Rattle.text_entries.specs.declared.text_fault.TextFault.{TextFault}

-- nothing, or a text whose last line ends with a line feed
abbrev pub AreWholeLines : List ℕ → Type 0
AreWholeLines text = (text ≡ []) ⊎ ((front : List ℕ) × (text ≡ front ++ codes "\n"))

-- The first fault of the text, behind others, is not that a line lacks an authority.
abbrev pub LacksNoAuthority : Standing → List ℕ → Type 0
LacksNoAuthority standing text =
    (number : ℕ)
    → (lines_with standing text).fault ≢ Some (fault_at number (Spec specs.NoAuthority))

-- what stands behind a text
abbrev pub behind : Standing → List ℕ → Standing
behind standing text = (lines_with standing text).standing

-- the same fault, this many lines later
abbrev pub later_by : ℕ → Option TextFault → Option TextFault
later_by count None = None
later_by count (Some fault) = Some (fault_at (count + fault.line) fault.cause)

-- how many lines end in a text
abbrev pub lines_in : List ℕ → ℕ
lines_in text = count_by is_newline text
