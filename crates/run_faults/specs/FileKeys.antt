-- The keys of a file that are left while it is read.
use Rattle.std.specs.Prelude.{◌≡◌, ℕ, ◌+◌, ◌^◌, ◌<◌, List, [], ◌∷◌, length, Option, Some, None}
use Rattle.std.specs.Prelude.{Result, Err}
use Rattle.std.specs.Borrow.{Bor}
use Rattle.key_text.specs.ContainerReading.{private_at}
use Rattle.key_text.specs.LineReading.{KeyLine, content_of, line_at}
use Rattle.key_text.specs.Lines.{lines_left}
use Rattle.run_faults.specs.declared.file_keys.KeyText.{KeyText}
use Rattle.run_faults.specs.declared.file_keys.KeyText.TheVariants.{Line, Container}
use Rattle.run_faults.specs.declared.file_keys.Left.{Left}
use Rattle.run_faults.specs.declared.file_keys.Left.TheVariants as lefts
use Rattle.run_faults.specs.declared.file_keys.Lines.{Lines}
use Rattle.run_faults.specs.declared.cause.Cause.TheVariants.{File}
use Rattle.run_faults.specs.Keys.{FileKey, key_of_container, held_by, keys_from, key_of_line}
use Rattle.run_faults.specs.RunFault.{RunFault, run_fault_of}

-- the content of the line or the container of a key
abbrev pub content_in : KeyText → KeyLine
content_in (Line line) = content_of line
content_in (Container private) = held_by (record { blob = private.blob; comment = private.comment })

abbrev pub lines_keys : List ℕ → Lines → List (Result FileKey RunFault)
lines_keys name lines = keys_from name (lines.passed + 1) (lines_left lines.rest)

abbrev pub keys_left : List ℕ → Left → List (Result FileKey RunFault)
keys_left name (lefts.Fault fault) = Err (run_fault_of name (File fault)) ∷ []
keys_left name (lefts.Container text) = key_of_container name (private_at text.now) ∷ []
keys_left name (lefts.Lines lines) = lines_keys name lines

-- the maximum number of lines left
abbrev pub line_room : Option (Bor (List ℕ)) → ℕ
line_room None = 0
line_room (Some text) = length text.now + 1

-- The lines that are left can be counted.
abbrev pub HasRoom : Left → Type 0
HasRoom (lefts.Lines lines) = lines.passed + line_room lines.rest < 2 ^ 64
HasRoom other = Unit {0}

-- The result is the next line that has a key, or no line has one.
abbrev pub IsNextLine : Lines → Lines → Option (Bor (List ℕ)) → Type 0
IsNextLine old new None =
    (name : List ℕ) → (lines_keys name old ≡ []) × (lines_keys name new ≡ [])
IsNextLine old new (Some line) = (name : List ℕ)
    → lines_keys name old ≡ key_of_line name new.passed (line_at line.now) ∷ lines_keys name new
