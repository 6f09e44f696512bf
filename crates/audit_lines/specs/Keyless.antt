-- Files without a key that an audit reports as a whole.
use Rattle.std.specs.Prelude.{ℕ, ◌+◌, Bool, true, false, List, [], ◌∷◌, nat_lt, Option, Some, None}
use Rattle.std.specs.Prelude.{if◌then◌else◌}
use Rattle.key_text.specs.Armour.{begins_container}
use Rattle.audit_lines.specs.Front.{fronts_of}
use Rattle.audit_lines.specs.Outcome.{Empty, Key, Outcome, Outcomes, Unread, plain_lines}

-- this number more
abbrev pub more_unread : ℕ → Option ℕ → Option ℕ
more_unread more None = None
more_unread more (Some count) = Some (more + count)

abbrev pub with_first : Outcome → Option ℕ → Option ℕ
with_first Empty count = count
with_first (Key found) count = None
with_first (Unread why) count = more_unread 1 count

abbrev pub with_second : Option Outcome → Option ℕ → Option ℕ
with_second None count = count
with_second (Some Empty) count = count
with_second (Some (Key found)) count = None
with_second (Some (Unread why)) count = count

-- the number of lines that are not read, or none if one has a key
abbrev pub unread_alone : List Outcomes → Option ℕ
unread_alone [] = Some 0
unread_alone (line ∷ lines) = with_second line.second (with_first line.first (unread_alone lines))

-- the same if this number was counted before, or a key was found
abbrev pub unread_with : Option ℕ → List Outcomes → Option ℕ
unread_with None lines = None
unread_with (Some count) lines = more_unread count (unread_alone lines)

abbrev pub many : Option ℕ → Option ℕ
many None = None
many (Some count) = if nat_lt 1 count then Some count else None

-- A file without a key in which several lines are not read is treated as one unread file: the
-- number of these lines.
unfoldable pub keyless : List Outcomes → Option ℕ
keyless lines = many (unread_alone lines)

-- The same if the file begins with a private key, or not.
abbrev pub keyless_unless : Bool → (name text : List ℕ) → Option ℕ
keyless_unless true name text = None
keyless_unless false name text = keyless (plain_lines (fronts_of name) text)

-- The number of lines of a file of this name that are not read, if it is reported as a whole.
unfoldable pub keyless_lines : (name text : List ℕ) → Option ℕ
keyless_lines name text = keyless_unless (begins_container text) name text
