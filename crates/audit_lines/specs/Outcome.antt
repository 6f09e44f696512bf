-- The outcomes of each line of a file of keys: nothing, a key, or why it is not read.
use Rattle.std.specs.Prelude.{◌≡◌, ◌⊎◌, ℕ, ◌+◌, ◌==◌, Bool, true, false, List, [], ◌∷◌, ◌++◌, map}
use Rattle.std.specs.Prelude.{Option, Some, None, Result, Ok, Err, if◌then◌else◌}
use Rattle.std.specs.Borrow.{Bor}
use Rattle.std.specs.List.{list_any, slice_split}
use Rattle.std.specs.Str.{bytes_eq}
use Rattle.ssh_cert.specs.SubjectReading.{subject_of}
use Rattle.ssh_cert.specs.declared.subject_fault.SubjectFault.{SubjectFault}
use Rattle.keyed_lines.specs.declared.key_cause.KeyCause.TheVariants as keys
use Rattle.krl_types.specs.Subject.{CertNames, Subject}
use Rattle.key_text.specs.Armour.{end_line}
use Rattle.key_text.specs.Blanks.{before_ending, trimmed}
use Rattle.key_text.specs.ContainerReading.{Opened, opened_of, private_at}
use Rattle.key_text.specs.KeyFile.{has_key}
use Rattle.key_text.specs.LineReading.{KeyLine, content_at, host_part, key_part}
use Rattle.key_text.specs.Lines.{is_newline}
use Rattle.key_text.specs.Marker.{marker_of, unmarked}
use Rattle.key_text.specs.PublicHalf.{public_half_at}
use Rattle.key_text.specs.declared.container.Private.{Private}
use Rattle.key_text.specs.declared.line_fault.LineFault.{LineFault}
use Rattle.key_text.specs.declared.line_fault.LineFault.TheVariants as lines
use Rattle.key_text.specs.declared.marker.Marker.{Marker}
use Rattle.key_text.specs.declared.private_fault.PrivateFault.{PrivateFault}
use Rattle.key_text.specs.declared.private_fault.PrivateFault.TheVariants as faults
use Rattle.audit_lines.specs.Front.{front_before, fronts_of, is_read_by_lines}
use Rattle.audit_lines.specs.declared.front.Fronts.{Fronts}
use Rattle.audit_lines.specs.declared.front.Fronts.TheVariants as fronts
use Rattle.audit_lines.specs.declared.outcome.Found.{Found as KeyFound}
use Rattle.audit_lines.specs.declared.outcome.Outcome.{Outcome as OutcomeOf}
use Rattle.audit_lines.specs.declared.outcome.Outcome.TheVariants as given
use Rattle.audit_lines.specs.declared.outcome.Outcomes.{Outcomes as Read}
use Rattle.audit_lines.specs.declared.why.Why.{Why}
use Rattle.audit_lines.specs.declared.why.Why.TheVariants as whys

-- A key: its marker, whether the text before it is host names, that text, its bytes, its comment,
-- and the query for it.
pub record Found : Type 0 where
  pub marker : Option Marker
  pub hosts : Bool
  pub front : List ℕ
  pub blob : List ℕ
  pub comment : List ℕ
  pub asked : Subject

pub data Outcome : Type 0 where
  -- it is blank or a comment
  Empty : Outcome
  Key : Found → Outcome
  Unread : Why → Outcome

abbrev pub has_zero : List ℕ → Bool
has_zero text = list_any (λ byte. byte == 0) text

-- The key ID of a certificate has a zero byte: OpenSSH refuses it, or drops that byte at the end of
-- the ID, which a list may name then.
abbrev pub has_zero_in_id : Option CertNames → Bool
has_zero_in_id None = false
has_zero_in_id (Some cert) = has_zero cert.key_id

-- the outcome of the bytes of a key, by the query that they make
abbrev pub asked_outcome : Option Marker → Bool → (front blob comment : List ℕ)
    → Result Subject SubjectFault → Outcome
asked_outcome marker hosts front blob comment (Ok asked) =
    if has_zero_in_id asked.cert then Unread whys.ZeroInId else Key (record {
      marker = marker;
      hosts = hosts;
      front = front;
      blob = blob;
      comment = comment;
      asked = asked;
    })
asked_outcome marker hosts front blob comment (Err fault) = Unread (whys.Key (keys.Subject fault))

abbrev pub line_outcome : Option Marker → Bool → List ℕ → Result KeyLine LineFault → Outcome
line_outcome marker hosts front (Ok line) =
    asked_outcome marker hosts front line.blob line.comment (subject_of line.blob)
line_outcome marker hosts front (Err fault) = Unread (whys.Key (keys.Line fault))

-- ---- a line

-- the text of a line before its part from the type name on
abbrev pub part_front : List ℕ → Option (List ℕ) → List ℕ
part_front line None = []
part_front line (Some part) = front_before line part

-- the outcome of a line by this part of it
unfoldable pub part_outcome : Option Marker → Bool → List ℕ → Option (List ℕ) → Outcome
part_outcome marker hosts line part =
    line_outcome marker hosts (part_front line part) (content_at part)

-- The outcome of a line of authorized keys, and of a line of known hosts. The line has no marker,
-- no blanks around it and no carriage returns at its end.
abbrev pub by_options : List ℕ → Outcome
by_options line = part_outcome None false line (key_part line)

abbrev pub by_hosts : Option Marker → List ℕ → Outcome
by_hosts marker line = part_outcome marker true line (host_part line)

-- The outcomes of a line: two, if it can be read in two ways.
pub record Outcomes : Type 0 where
  pub first : Outcome
  pub second : Option Outcome

abbrev pub one : Outcome → Outcomes
one outcome = record { first = outcome; second = None }

abbrev pub two : Outcome → Outcome → Outcomes
two first second = record { first = first; second = Some second }

-- no key type is there
abbrev pub is_bare : Outcome → Bool
is_bare (Unread (whys.Key (keys.Line lines.NoKey))) = true
is_bare _ = false

-- the same key, or no key
abbrev pub is_same : Outcome → Outcome → Bool
is_same (Key found) (Key other) = bytes_eq found.blob other.blob
is_same (Unread why) (Unread other) = true
is_same _ _ = false

-- the outcomes of a line that one may read in these two ways: one where they lead to the same
unfoldable pub merged : Outcome → Outcome → Outcomes
merged first second =
    if is_bare first then one second
    else if is_bare second then one first
    else if is_same first second then one first else two first second

abbrev pub is_same_part : Option (List ℕ) → Option (List ℕ) → Bool
is_same_part None None = true
is_same_part None (Some part) = false
is_same_part (Some part) None = false
is_same_part (Some part) (Some other) = bytes_eq part other

-- a line of which nobody knows whether it is of authorized keys or of known hosts
unfoldable pub by_either : List ℕ → Outcomes
by_either line =
    if is_same_part (key_part line) (host_part line) then one (by_options line)
    else merged (by_options line) (by_hosts None line)

-- only a line of known hosts has a marker
abbrev pub bare_outcomes : Option Marker → Fronts → List ℕ → Outcomes
bare_outcomes (Some marker) kind line = one (by_hosts (Some marker) line)
bare_outcomes None fronts.Hosts line = one (by_hosts None line)
bare_outcomes None fronts.Options line = one (by_options line)
bare_outcomes None fronts.Either line = by_either line

-- the outcomes of a line, by what the field before its key is
unfoldable pub outcomes_of : Fronts → List ℕ → Outcomes
outcomes_of kind text =
    if has_key text then bare_outcomes (marker_of text) kind (trimmed (unmarked text))
    else one Empty

-- the text before the key of a line of authorized keys, and of a line of known hosts
abbrev pub options_of : List ℕ → List ℕ
options_of line = part_front line (key_part line)

abbrev pub hosts_of : List ℕ → List ℕ
hosts_of line = part_front line (host_part line)

abbrev pub IsFound : List ℕ → Outcome → Type 0
IsFound blob Empty = ⊥
IsFound blob (Key found) = found.blob ≡ blob
IsFound blob (Unread why) = ⊥

abbrev pub IsSecond : List ℕ → Option Outcome → Type 0
IsSecond blob None = ⊥
IsSecond blob (Some outcome) = IsFound blob outcome

-- the key with these bytes is one of the outcomes
abbrev pub HasFound : Outcomes → List ℕ → Type 0
HasFound outcomes blob = IsFound blob outcomes.first ⊎ IsSecond blob outcomes.second

-- ---- private key files

-- the public key of one that is encrypted, whose comment is encrypted too
abbrev pub with_no_comment : Result (List ℕ) PrivateFault → Result Opened PrivateFault
with_no_comment (Ok blob) = Ok (record { blob = blob; comment = [] })
with_no_comment (Err fault) = Err fault

abbrev pub half_opened : List ℕ → Result Opened PrivateFault
half_opened text = with_no_comment (public_half_at text)

abbrev pub or_half : List ℕ → Result Opened PrivateFault → Result Opened PrivateFault
or_half text (Err faults.Encrypted) = half_opened text
or_half text opened = opened

-- the public key of a private key file, encrypted or not
abbrev pub opened_at : List ℕ → Result Opened PrivateFault
opened_at text = or_half text (private_at text)

abbrev pub private_outcome : Result Opened PrivateFault → Outcome
private_outcome (Ok opened) =
    asked_outcome None false [] opened.blob opened.comment (subject_of opened.blob)
private_outcome (Err fault) = Unread (whys.Private fault)

-- ---- files

-- an outcome, the number of its line, and the column in which its key begins; 0 represents the
-- whole line
pub record Placed : Type 0 where
  pub number : ℕ
  pub column : ℕ
  pub outcome : Outcome

abbrev pub in_column : ℕ → ℕ → Outcome → Placed
in_column number column outcome = record { number = number; column = column; outcome = outcome }

abbrev pub place : ℕ → Outcome → Placed
place number outcome = in_column number 0 outcome

abbrev pub place_second : ℕ → Option Outcome → List Placed
place_second number None = []
place_second number (Some outcome) = place number outcome ∷ []

abbrev pub place_all : ℕ → Outcomes → List Placed
place_all number outcomes = place number outcomes.first ∷ place_second number outcomes.second

-- the outcomes of lines, of which the first has this number
abbrev pub placed_from : ℕ → List Outcomes → List Placed
placed_from number [] = []
placed_from number (line ∷ lines) = place_all number line ++ placed_from (number + 1) lines

abbrev pub read_all : Fronts → List (List ℕ) → List Outcomes
read_all kind lines = map (outcomes_of kind) lines

-- the outcomes of the lines after the first one that ends a private key
abbrev pub placed_behind : Fronts → ℕ → List (List ℕ) → List Placed
placed_behind kind number [] = []
placed_behind kind number (line ∷ lines) =
    if bytes_eq (before_ending line) end_line then placed_from (number + 1) (read_all kind lines)
    else placed_behind kind (number + 1) lines

-- These are the outcomes of the lines of the text that was found, which has this many lines before
-- it; or there is none.
abbrev pub LeadsBehind : Fronts → Option (ℕ × Bor (List ℕ)) → List Placed → Type 0
LeadsBehind kind None lines = lines ≡ []
LeadsBehind kind (Some (passed, rest)) lines =
    lines ≡ placed_from (passed + 1) (read_all kind (slice_split is_newline rest.now))

-- The lines behind a private key are read, and all lines of a file that ssh or sshd reads by lines.
abbrev pub placed_beside : Fronts → Bool → List (List ℕ) → List Placed
placed_beside kind true lines = placed_from 1 (read_all kind lines)
placed_beside kind false lines = placed_behind kind 1 lines

-- a private key file: its key has the number of its first line
unfoldable pub private_lines : (name text : List ℕ) → List Placed
private_lines name text =
    place 1 (private_outcome (opened_at text))
    ∷ placed_beside (fronts_of name) (is_read_by_lines name) (slice_split is_newline text)

-- The lines of another file. A byte order mark at its start belongs to its first line, as it does
-- for ssh and sshd.
unfoldable pub plain_lines : Fronts → List ℕ → List Outcomes
plain_lines kind text = read_all kind (slice_split is_newline text)

-- ---- the result of reading

-- the key that was found, and the query for it
abbrev pub found_as : KeyFound → Subject → Found
found_as found asked =
    record {
      marker = found.marker;
      hosts = found.hosts;
      front = found.front.now;
      blob = found.blob;
      comment = found.comment.now;
      asked = asked;
    }

-- The outcome is this one.
abbrev pub GivesOutcome : OutcomeOf → Outcome → Type 0
GivesOutcome given.Empty outcome = outcome ≡ Empty
GivesOutcome (given.Key found) outcome =
    (asked : Subject) × ((subject_of found.blob ≡ Ok asked)
    × (outcome ≡ Key (found_as found asked)))
GivesOutcome (given.Unread why) outcome = outcome ≡ Unread why

abbrev pub GivesSecond : Option OutcomeOf → Option Outcome → Type 0
GivesSecond None second = second ≡ None
GivesSecond (Some read) second =
    (other : Outcome) × ((GivesOutcome read other) × (second ≡ Some other))

-- The outcomes are these.
pub record GivesOutcomes (read : Read) (outcomes : Outcomes) : Type 0 where
  pub first : GivesOutcome read.first outcomes.first
  pub second : GivesSecond read.second outcomes.second

-- A list can be queried for the bytes, or this is why not.
abbrev pub SaysWhy : Option Why → Result Subject SubjectFault → Type 0
SaysWhy None read =
    (asked : Subject) × ((read ≡ Ok asked) × (has_zero_in_id asked.cert ≡ false))
SaysWhy (Some why) read = (marker : Option Marker) (hosts : Bool) (front blob comment : List ℕ)
    → asked_outcome marker hosts front blob comment read ≡ Unread why

abbrev pub GivesOpened : Result Private PrivateFault → Result Opened PrivateFault → Type 0
GivesOpened (Ok private) read = read ≡ Ok (opened_of private)
GivesOpened (Err fault) read = read ≡ Err fault
