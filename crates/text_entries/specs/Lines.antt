-- The entries of the text of a list.
use Rattle.std.specs.Prelude.{ℕ, ◌+◌, List, [], ◌∷◌, Option, Some, None, Result, Ok, Err}
use Rattle.std.specs.List.{slice_split}
use Rattle.key_text.specs.Lines.{is_newline}
use Rattle.krl_types.specs.Entry.{Entry}
use Rattle.text_entries.specs.Says.{Saying, entry_said, first_standing, line_says, standing_after}
use Rattle.text_entries.specs.declared.standing.Standing.{Standing}
use Rattle.text_entries.specs.declared.text_cause.TextCause.{TextCause}
use Rattle.text_entries.specs.declared.text_fault.TextFault.{TextFault}

-- The entries of lines up to the first fault, that fault, and what stands after the lines.
pub record LineEntries : Type 0 where
  pub entries : List Entry
  pub fault : Option TextFault
  pub standing : Standing

abbrev pub fault_at : ℕ → TextCause → TextFault
fault_at number cause = record { line = number; cause = cause }

abbrev pub with_entry : Option Entry → LineEntries → LineEntries
with_entry None lines = lines
with_entry (Some entry) lines = record lines { entries = entry ∷ lines.entries }

-- a line with this number, followed by later lines under what stands then
abbrev pub before_later : ℕ → Standing → Result Saying TextCause → (Standing → LineEntries)
    → LineEntries
before_later number standing (Ok saying) later =
    with_entry (entry_said saying) (later (standing_after saying standing))
before_later number standing (Err cause) later =
    record { entries = []; fault = Some (fault_at number cause); standing = standing }

-- the entries of lines, of which the first has this number
abbrev pub lines_from : Standing → ℕ → List (List ℕ) → LineEntries
lines_from standing number [] = record { entries = []; fault = None; standing = standing }
lines_from standing number (line ∷ lines) =
    before_later number standing (line_says standing line)
    (λ after. lines_from after (number + 1) lines)

-- At the beginning of a text no authority is current, but those that texts before it name have
-- their names.
abbrev pub beginning : Standing → Standing
beginning standing = record standing { current = None }

-- the entries of a text, behind texts that this stands after
unfoldable pub lines_with : Standing → List ℕ → LineEntries
lines_with standing text = lines_from (beginning standing) 1 (slice_split is_newline text)

-- the entries of a text by itself, on this day
abbrev pub lines_of : (today : ℕ) → List ℕ → LineEntries
lines_of today text = lines_with (first_standing today) text
