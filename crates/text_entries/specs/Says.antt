-- The meaning of a line of the text of a list (krl(1), THE TEXT OF A LIST).
use Rattle.std.specs.Prelude.{ℕ, ℤ, ◌+◌, ◌-◌, ◌^◌, min, List, [], ◌∷◌, Option, Some, None}
use Rattle.std.specs.Prelude.{Result, Ok, Err, Bool, false, ◌==◌, ◌&&◌, not, nat_lt, length}
use Rattle.std.specs.Prelude.{if◌then◌else◌}
use Rattle.ssh_wire.specs.Reading.{◌>>=◌, in_fault}
use Rattle.run_faults.specs.declared.spec_cause.SpecCause.{SpecCause}
use Rattle.run_faults.specs.declared.spec_cause.SpecCause.TheVariants as specs
use Rattle.krl_types.specs.Entry.{Entry, IdEntry, KeyEntry, Sha1Entry}
use Rattle.krl_spec.specs.Blanks.{bare_line}
use Rattle.krl_spec.specs.Entries.{bare_entry, order_entry}
use Rattle.krl_spec.specs.declared.directive.Directive.{Directive}
use Rattle.krl_spec.specs.declared.directive.Directive.TheVariants as directives
use Rattle.key_text.specs.Blanks.{after_blanks}
use Rattle.text_entries.specs.AuthorityNames.{NamedKeys, authority_named, can_have, is_name}
use Rattle.text_entries.specs.AuthorityNames.{with_name}
use Rattle.text_entries.specs.Day.{dated_content, has_day_in_comment, is_over, last_day, until_in}
use Rattle.text_entries.specs.KeyId.{has_control, is_cut, no_id}
use Rattle.text_entries.specs.Mark.{Mark, given_behind, mark_in}
use Rattle.text_entries.specs.Named.{can_end, is_entry, named_in}
use Rattle.text_entries.specs.Values.{authority_blob_in, authority_in, bare_authority_in}
use Rattle.text_entries.specs.Values.{begins_with_key, blob_in, bytes_in, has_leading_zero}
use Rattle.text_entries.specs.Values.{has_zero, is_sha1, no_key, sha1_in}
use Rattle.text_entries.specs.Word.{Order, order_in}
use Rattle.text_entries.specs.declared.standing.Standing.{Standing}
use Rattle.text_entries.specs.declared.text_cause.TextCause.{TextCause}
use Rattle.text_entries.specs.declared.text_cause.TextCause.TheVariants as causes
use Rattle.text_entries.specs.declared.word.Word.{Word}
use Rattle.text_entries.specs.declared.word.Word.TheVariants.{Authority, AuthorityBlob, Serial, Id}
use Rattle.text_entries.specs.declared.word.Word.TheVariants.{IdHex, Key, KeyBlob, Sha1, Sha256}
use Rattle.text_entries.specs.declared.word.Word.TheVariants.{Hash}

pub data Saying : Type 0 where
  -- nothing
  Blank : Saying
  -- the authority of the lines that follow, by its bytes; no bytes mean all authorities
  Current : (authority : List ℕ) → Saying
  -- the name of an authority, and its bytes
  Declares : (name key : List ℕ) → Saying
  -- an entry under the current authority, or under one that has a name
  Under : Entry → Saying
  -- A key, a hash or a certificate. No authority is current for the lines that follow.
  Names : Entry → Saying
  -- what a line would say, if the last day that it has were not over
  Over : Saying → Saying

-- On this day no lines are read yet.
abbrev pub first_standing : (today : ℕ) → Standing
first_standing today = record { today = today; over = 0; current = None; names = [] }

-- one more line is over, of up to 64 bits
abbrev pub one_more_over : Standing → Standing
one_more_over standing = record standing { over = min (standing.over + 1) (2 ^ 64 - 1) }

-- what stands after a line that says this
abbrev pub standing_after : Saying → Standing → Standing
standing_after Blank standing = standing
standing_after (Current authority) standing = record standing { current = Some authority }
standing_after (Declares name key) standing =
    record standing { names = with_name standing.names name key }
standing_after (Under entry) standing = standing
standing_after (Names entry) standing = record standing { current = None }
standing_after (Over saying) standing = one_more_over (standing_after saying standing)

abbrev pub entry_said : Saying → Option Entry
entry_said (Under entry) = Some entry
entry_said (Names entry) = Some entry
entry_said saying = None

abbrev pub under_says : Result Entry TextCause → Result Saying TextCause
under_says (Ok entry) = Ok (Under entry)
under_says (Err cause) = Err cause

abbrev pub names_says : Result Entry TextCause → Result Saying TextCause
names_says (Ok entry) = Ok (Names entry)
names_says (Err cause) = Err cause

-- ---- the entries of lines

-- an entry, or a fault that a line of a specification file can have too
abbrev pub spec_entry : Result Entry SpecCause → Result Entry TextCause
spec_entry read = in_fault causes.Spec read

abbrev pub has_zero_id : Entry → Bool
has_zero_id (IdEntry authority id) = has_zero id
has_zero_id entry = false

-- An entry, unless it is a key ID with a zero byte: OpenSSH takes no list that has one.
abbrev pub whole_entry : Entry → Result Entry TextCause
whole_entry entry = if has_zero_id entry then Err causes.ZeroInId else Ok entry

-- Serial numbers without leading zeros, which specification files read as octal.
abbrev pub serial_entry : Option (List ℕ) → List ℕ → Result Entry TextCause
serial_entry current given =
    if has_leading_zero given then Err causes.LeadingZero
    else spec_entry (order_entry current directives.Serial given)

abbrev pub unless_cause : Option TextCause → Result Entry TextCause → Result Entry TextCause
unless_cause None read = read
unless_cause (Some cause) read = Err cause

-- A key ID as it is: a `#` does not cut it short, it has no control characters, and it looks like
-- nothing else.
abbrev pub id_entry : Option (List ℕ) → List ℕ → List ℕ → Result Entry TextCause
id_entry current line given =
    if is_cut line then Err causes.CutId
    else if has_control given then Err causes.ControlInId
    else unless_cause (no_id given) (spec_entry (order_entry current directives.Id given))

-- a key ID by its bytes, under the current authority
abbrev pub id_hex_entry : Option (List ℕ) → List ℕ → Result Entry TextCause
id_hex_entry None given = Err (causes.Spec specs.NoAuthority)
id_hex_entry (Some authority) given = do
  id ← bytes_in given
  whole_entry (IdEntry authority id)

abbrev pub key_blob_entry : List ℕ → Result Entry TextCause
key_blob_entry given = do
  blob ← blob_in given
  Ok (KeyEntry blob)

abbrev pub sha1_entry : List ℕ → Result Entry TextCause
sha1_entry given = do
  hash ← sha1_in given
  Ok (Sha1Entry hash)

abbrev pub hash_entry : List ℕ → Result Entry TextCause
hash_entry given =
    if is_sha1 given then sha1_entry given
    else spec_entry (order_entry None directives.Hash given)

-- a key line, as a directive says it, but with nothing before the key
abbrev pub keyed_entry : Directive → List ℕ → Result Entry TextCause
keyed_entry directive given =
    if begins_with_key given then spec_entry (order_entry None directive given)
    else Err no_key

-- Content without a word is a key line, as in a specification file, but with nothing before the
-- key: a word without its colon would be options of the key.
abbrev pub bare_key_entry : List ℕ → Result Entry TextCause
bare_key_entry content =
    if begins_with_key content then spec_entry (bare_entry content) >>= whole_entry
    else Err causes.UnknownWord

-- ---- what lines say

abbrev pub current_says : Result (List ℕ) TextCause → Result Saying TextCause
current_says read = do
  authority ← read
  Ok (Current authority)

abbrev pub word_says : Option (List ℕ) → List ℕ → Word → List ℕ → Result Saying TextCause
word_says current line Authority given = current_says (authority_in given)
word_says current line AuthorityBlob given = current_says (authority_blob_in given)
word_says current line Serial given = under_says (serial_entry current given)
word_says current line Id given = under_says (id_entry current line given)
word_says current line IdHex given = under_says (id_hex_entry current given)
word_says current line Key given = names_says (keyed_entry directives.Key given)
word_says current line KeyBlob given = names_says (key_blob_entry given)
word_says current line Sha1 given = names_says (keyed_entry directives.Sha1 given)
word_says current line Sha256 given = names_says (keyed_entry directives.Sha256 given)
word_says current line Hash given = names_says (hash_entry given)

-- ---- what lines with marks say

-- the key, unless another one has the name
abbrev pub unless_other : NamedKeys → (name key : List ℕ) → Result (List ℕ) TextCause
unless_other names name key = if can_have names name key then Ok key else Err causes.OtherKey

-- the key that gets a name
abbrev pub declares : NamedKeys → (name given : List ℕ) → Result (List ℕ) TextCause
declares names name given =
    if is_name name then bare_authority_in given >>= unless_other names name
    else Err causes.BadName

abbrev pub name_says : (name : List ℕ) → Result (List ℕ) TextCause → Result Saying TextCause
name_says name (Ok key) = Ok (Declares name key)
name_says name (Err cause) = Err cause

-- the entry of a certificate with this word, under an authority that was looked up by its name
abbrev pub named_entry : Result (List ℕ) TextCause → List ℕ → Word → List ℕ
    → Result Entry TextCause
named_entry named line Serial given = named >>= λ authority. serial_entry (Some authority) given
named_entry named line Id given = named >>= λ authority. id_entry (Some authority) line given
named_entry named line IdHex given = named >>= λ authority. id_hex_entry (Some authority) given
named_entry named line word given = Err causes.MarkedWord

abbrev pub marked_entry : NamedKeys → (line name : List ℕ) → Option Order → Result Entry TextCause
marked_entry names line name None = Err causes.MarkedWord
marked_entry names line name (Some order) =
    named_entry (authority_named names name) line order.word order.given

abbrev pub mark_with : NamedKeys → (line name rest : List ℕ) → (given : Option (List ℕ))
    → Result Saying TextCause
mark_with names line name rest (Some given) = name_says name (declares names name given)
mark_with names line name rest None =
    under_says (marked_entry names line name (order_in (after_blanks rest)))

abbrev pub mark_says : NamedKeys → (line name rest : List ℕ) → Result Saying TextCause
mark_says names line name rest = mark_with names line name rest (given_behind rest)

-- ---- what any line says

abbrev pub key_line_says : List ℕ → Result Saying TextCause
key_line_says [] = Ok Blank
key_line_says (byte ∷ bytes) = names_says (bare_key_entry (byte ∷ bytes))

abbrev pub unmarked_says : Standing → (line content : List ℕ) → Option Mark
    → Result Saying TextCause
unmarked_says standing line content None = key_line_says content
unmarked_says standing line content (Some mark) =
    mark_says standing.names line mark.name mark.rest

abbrev pub order_says : Standing → (line content : List ℕ) → Option Order
    → Result Saying TextCause
order_says standing line content None = unmarked_says standing line content (mark_in content)
order_says standing line content (Some order) =
    word_says standing.current line order.word order.given

-- the meaning of a line's content without a last day
unfoldable pub content_says : Standing → (line content : List ℕ) → Result Saying TextCause
content_says standing line content = order_says standing line content (order_in content)

-- ---- what lines with last days say

abbrev pub unless_over : Bool → Result Saying TextCause → Result Saying TextCause
unless_over over (Ok saying) = if over then Ok (Over saying) else Ok saying
unless_over over (Err cause) = Err cause

-- Content with a last day says what it says without one, up to that day. Its faults are the same on
-- each day.
abbrev pub ending_says : Standing → (line content : List ℕ) → (day : Option ℤ)
    → Result Saying TextCause
ending_says standing line content None = Err causes.BadDate
ending_says standing line content (Some day) =
    if can_end (named_in content)
    then unless_over (is_over standing.today day) (content_says standing line content)
    else Err causes.NoLastDay

-- The comment of an entry has a day, which was meant to be its last one. A line that is all
-- content, or has none, is no entry with a comment.
abbrev pub is_misplaced : (line content : List ℕ) → Bool
is_misplaced line content =
    not (length content == 0) && (nat_lt (length content) (length line)
    && (has_day_in_comment line && is_entry (named_in content)))

-- A line without a last day has none in its comment.
abbrev pub endless_says : Standing → (line content : List ℕ) → Result Saying TextCause
endless_says standing line content =
    if is_misplaced line content then Err causes.DateInComment
    else content_says standing line content

abbrev pub until_says : Standing → (line content : List ℕ) → (behind : Option (List ℕ))
    → Result Saying TextCause
until_says standing line content None = endless_says standing line content
until_says standing line content (Some behind) =
    ending_says standing line (dated_content behind) (last_day behind)

-- The meaning of a line. No authority is current if no line before it gives one that still counts.
unfoldable pub line_says : Standing → List ℕ → Result Saying TextCause
line_says standing line =
    until_says standing line (bare_line line) (until_in (bare_line line))
