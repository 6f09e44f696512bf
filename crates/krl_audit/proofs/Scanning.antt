-- Findings of keys anywhere in lines.
use Rattle.std.proofs.Common.{◌≡◌, ℕ, ◌+◌, List, [], ◌∷◌, Result, Ok, Err, refl, sym, subst}
use Rattle.std.specs.List.{slice_split}
use Rattle.key_text.specs.Lines.{is_newline}
use Rattle.krl_types.specs.Subject.{Subject}
use Rattle.audit_text.specs.Answer.{Answer}
use Rattle.run_faults.specs.RunFault.{RunFault, run_fault_of}
use Rattle.run_faults.specs.declared.cause.Cause.TheVariants as causes
use Rattle.run_output.specs.Printer.{Printer}
use Rattle.run_output.proofs.RunParts.{carries_passed}
use Rattle.key_places.specs.Place.{KeyPlace}
use Rattle.audit_lines.specs.Outcome.{Empty, place}
use Rattle.krl_audit.specs.Audit.{Told}
use Rattle.krl_audit.specs.Scan.{placed_at, placed_in, placed_with, scanned_from}
use Rattle.krl_audit.specs.declared.counts.Counts.{Counts}
use Rattle.krl_audit.specs.declared.judge.Shown.{Shown}
use Rattle.krl_audit.specs.declared.tally.Tally.{Tally}
use Rattle.krl_audit.proofs.Telling.{told_memory, told_stop, told_then}

-- ---- the places of a line

-- nothing is said of the line itself
pub told_end : (answers : Subject → Answer) (shown : Shown) (name : List ℕ) (tally : Tally) (number : ℕ) (now : Printer) (counts : Counts) → Told answers shown name tally (place number Empty ∷ []) (Ok tally) now now counts counts
told_end answers shown name tally number now counts = record { carries = carries_passed tally name now; counts = refl; tally_is = refl }

-- one more place, and those after it
pub told_place : (answers : Subject → Answer) (shown : Shown) (name : List ℕ) (tally : Tally) (number : ℕ) (one : KeyPlace) (more : List KeyPlace) (value : Tally) (result : Result Tally RunFault) (old mid new : Printer) (before between after : Counts)
    → Told answers shown name tally (placed_at number one ∷ []) (Ok value) old mid before between → Told answers shown name value (placed_with number more) result mid new between after
    → Told answers shown name tally (placed_with number (one ∷ more)) result old new before after
told_place answers shown name tally number one more value result old mid new before between after first later =
    told_then answers shown name tally (placed_at number one ∷ []) (placed_with number more) value result old mid new before between after first later

pub told_place_stop : (answers : Subject → Answer) (shown : Shown) (name : List ℕ) (tally : Tally) (number : ℕ) (one : KeyPlace) (more : List KeyPlace) (stop : RunFault) (old new : Printer) (before after other : Counts)
    → Told answers shown name tally (placed_at number one ∷ []) (Err stop) old new before after → Told answers shown name tally (placed_with number (one ∷ more)) (Err stop) old new before other
told_place_stop answers shown name tally number one more stop old new before after other first =
    told_stop answers shown name tally (placed_at number one ∷ []) (placed_with number more) stop old new before after other first

-- an allocation failed before the next place or the end of the line
pub told_place_memory : (answers : Subject → Answer) (shown : Shown) (name : List ℕ) (tally : Tally) (number : ℕ) (places : List KeyPlace) (stop : RunFault) (now : Printer) (before after : Counts) → stop ≡ run_fault_of name causes.NoMemory
    → Told answers shown name tally (placed_with number places) (Err stop) now now before after
told_place_memory answers shown name tally number [] stop now before after is = told_memory answers shown name tally (place number Empty) [] stop now before after is
told_place_memory answers shown name tally number (one ∷ more) stop now before after is = told_memory answers shown name tally (placed_at number one) (placed_with number more) stop now before after is

-- ---- the lines of a text

-- one more line, and those after it
pub told_line : (answers : Subject → Answer) (shown : Shown) (name : List ℕ) (tally : Tally) (number : ℕ) (text line : List ℕ) (after : List (List ℕ)) (value : Tally) (result : Result Tally RunFault) (old mid new : Printer) (one two three : Counts)
    → slice_split is_newline text ≡ line ∷ after → Told answers shown name tally (placed_in number line) (Ok value) old mid one two → Told answers shown name value (scanned_from (number + 1) after) result mid new two three
    → Told answers shown name tally (scanned_from number (slice_split is_newline text)) result old new one three
told_line answers shown name tally number text line after value result old mid new one two three split first later =
    subst (λ (lines : List (List ℕ)). Told answers shown name tally (scanned_from number lines) result old new one three) (sym split)
    (told_then answers shown name tally (placed_in number line) (scanned_from (number + 1) after) value result old mid new one two three first later)

pub told_line_stop : (answers : Subject → Answer) (shown : Shown) (name : List ℕ) (tally : Tally) (number : ℕ) (text line : List ℕ) (after : List (List ℕ)) (stop : RunFault) (old new : Printer) (one two other : Counts)
    → slice_split is_newline text ≡ line ∷ after → Told answers shown name tally (placed_in number line) (Err stop) old new one two
    → Told answers shown name tally (scanned_from number (slice_split is_newline text)) (Err stop) old new one other
told_line_stop answers shown name tally number text line after stop old new one two other split first =
    subst (λ (lines : List (List ℕ)). Told answers shown name tally (scanned_from number lines) (Err stop) old new one other) (sym split)
    (told_stop answers shown name tally (placed_in number line) (scanned_from (number + 1) after) stop old new one two other first)
