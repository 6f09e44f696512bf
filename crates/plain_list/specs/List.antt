-- The keys that a plain list revokes, and the faults for which it is refused.
use Rattle.std.specs.Prelude.{◌≡◌, ℕ, ◌+◌, ◌<◌, ◌≤◌, List, [], ◌∷◌, ◌++◌, length, All, Option, Some}
use Rattle.std.specs.Prelude.{None, Result, Ok, Err}
use Rattle.std.specs.List.{flat_map, slice_split}
use Rattle.std.specs.Result.{IsOk}
use Rattle.key_text.specs.Lines.{is_newline}
use Rattle.keyed_lines.specs.declared.key_cause.KeyCause.{KeyCause}
use Rattle.krl_types.specs.Entry.{Entry, KeyEntry}
use Rattle.krl_format.specs.Front.{limit}
use Rattle.plain_list.specs.Key.{line_key}
use Rattle.plain_list.specs.declared.fault.PlainFault.{PlainFault}
use Rattle.plain_list.specs.declared.fault.PlainFault.TheVariants as faults

abbrev pub lines_of : List ℕ → List (List ℕ)
lines_of text = slice_split is_newline text

-- ---- what the lines revoke

-- a line as entries of a list: its key, or nothing
abbrev pub key_entries : Result (Option (List ℕ)) KeyCause → List Entry
key_entries (Ok (Some blob)) = KeyEntry blob ∷ []
key_entries (Ok None) = []
key_entries (Err cause) = []

abbrev pub line_entries : List ℕ → List Entry
line_entries line = key_entries (line_key line)

unfoldable pub entries_of : List (List ℕ) → List Entry
entries_of lines = flat_map line_entries lines

-- ---- which lists are refused

-- Each line is empty, a comment or a key.
abbrev pub AreRead : List (List ℕ) → Type 0
AreRead lines = All (λ line. IsOk (line_key line)) lines

-- The line with this number is the first one that is refused.
pub record IsFirstBadLine (lines : List (List ℕ)) (number : ℕ) (cause : KeyCause) : Type 0 where
  pub before : List (List ℕ)
  pub line : List ℕ
  pub after : List (List ℕ)
  pub parts : lines ≡ before ++ line ∷ after
  pub counted : number ≡ length before + 1
  pub are_read : AreRead before
  pub fault : line_key line ≡ Err cause

abbrev pub HasFault : List ℕ → PlainFault → Type 0
HasFault text faults.TooLong = limit < length text
HasFault text (faults.Line number cause) =
    (length text ≤ limit) × IsFirstBadLine (lines_of text) number cause
HasFault text faults.NoMemory = length text ≤ limit
