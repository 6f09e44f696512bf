-- Keys anywhere in the lines of a text.
use Rattle.std.specs.Prelude.{◌≡◌, ℕ, ◌+◌, false, List, [], ◌∷◌, ◌++◌, length, map, Option}
use Rattle.std.specs.Prelude.{Some, None}
use Rattle.std.specs.List.{slice_split}
use Rattle.ssh_cert.specs.SubjectReading.{subject_of}
use Rattle.key_text.specs.Lines.{is_newline}
use Rattle.key_text.specs.declared.line_fault.LineFault.TheVariants.{Base64}
use Rattle.keyed_lines.specs.declared.key_cause.KeyCause.TheVariants.{Line}
use Rattle.key_places.specs.Place.{IsPlace, KeyPlace}
use Rattle.key_places.specs.Reading.{places_of}
use Rattle.audit_lines.specs.Outcome.{Empty, Outcome, Placed, Unread, asked_outcome, in_column}
use Rattle.audit_lines.specs.Outcome.{place}
use Rattle.audit_lines.specs.declared.why.Why.TheVariants.{Key as KeyWhy}

-- the outcome of a key without options and comment, or of one whose base64 is cut
abbrev pub blob_outcome : Option (List ℕ) → Outcome
blob_outcome None = Unread (KeyWhy (Line Base64))
blob_outcome (Some blob) = asked_outcome None false [] blob [] (subject_of blob)

-- the outcome of a place of the line with this number
abbrev pub placed_at : ℕ → KeyPlace → Placed
placed_at number found = in_column number found.column (blob_outcome found.blob)

-- those of places, and behind them the line itself, of which nothing is said
abbrev pub placed_with : ℕ → List KeyPlace → List Placed
placed_with number places = map (placed_at number) places ++ place number Empty ∷ []

-- those of all places of a line
abbrev pub placed_in : ℕ → List ℕ → List Placed
placed_in number line = placed_with number (places_of line)

-- those of lines, of which the first has this number
abbrev pub scanned_from : ℕ → List (List ℕ) → List Placed
scanned_from number [] = []
scanned_from number (line ∷ lines) = placed_in number line ++ scanned_from (number + 1) lines

-- those of a text
unfoldable pub scanned_lines : List ℕ → List Placed
scanned_lines text = scanned_from 1 (slice_split is_newline text)

-- The outcome is that of a place of a line of the text.
pub record IsAtPlace (text : List ℕ) (placed : Placed) : Type 0 where
  pub before : List (List ℕ)
  pub line : List ℕ
  pub after : List (List ℕ)
  pub lines : slice_split is_newline text ≡ before ++ line ∷ after
  pub found : KeyPlace
  pub is_place : IsPlace line found
  pub placed_is : placed ≡ placed_at (length before + 1) found
