-- The content of a text: whether its lines name entries, but not which.
use Rattle.std.proofs.Common.{◌≡◌, ◌≢◌, ◌⊎◌, ◌↔◌, ℕ, ℤ, ◌+◌, Bool, true, false, List, [], ◌∷◌, ◌++◌, Option, Some, None, Result, Ok, Err, refl, sym, ap, subst, ◌∙◌, inl, inr, arith}
use Rattle.std.specs.List.{list_any, slice_split}
use Rattle.std.proofs.lemmas.Bool.{cases_Bool}
use Rattle.key_text.specs.Lines.{is_newline}
use Rattle.krl_spec.specs.Blanks.{bare_line, is_hash}
use Rattle.krl_types.specs.Entry.{Entry}
use Rattle.text_entries.specs.Day.{dated_content, is_over, last_day, until_in}
use Rattle.text_entries.specs.Lines.{LineEntries, before_later, beginning, lines_from, lines_with, with_entry}
use Rattle.text_entries.specs.Mark.{Mark, given_behind, mark_in, name_if_given, name_of_mark}
use Rattle.text_entries.specs.Named.{can_end, is_entry, is_plain_key, named_in, word_named_by}
use Rattle.text_entries.specs.Says.{Blank as SaysNothing, Current, Declares, Names, Over, Saying, Under, content_says, current_says, declares, ending_says, entry_said, first_standing, is_misplaced, key_line_says, line_says, mark_says, mark_with, name_says, names_says, one_more_over, order_says, standing_after, under_says, unless_over, unmarked_says, until_says, word_says}
use Rattle.text_entries.specs.Values.{authority_blob_in, authority_in}
use Rattle.text_entries.specs.Word.{Order, order_in}
use Rattle.text_entries.specs.declared.named.Named.{Named}
use Rattle.text_entries.specs.declared.named.Named.TheVariants.{Nothing, Authority, Certificate}
use Rattle.text_entries.specs.declared.standing.Standing.{Standing}
use Rattle.text_entries.specs.declared.text_cause.TextCause.{TextCause}
use Rattle.text_entries.specs.declared.word.Word.{Word}
use Rattle.text_entries.specs.declared.word.Word.TheVariants as words_of
use Rattle.text_entries.proofs.LastDays.{marked_unordered, until_named}
use Rattle.text_run.specs.Content.{HasNote, HasSome, IsNote, content_of, line_content, lines_content, more, named_content}
use Rattle.text_run.specs.declared.content.Content.{Content}
use Rattle.text_run.specs.declared.content.Content.TheVariants.{Blank, Notes, Entries}

-- ---- a line

-- a line names an entry, or one that is over
abbrev IsEntry : Saying → Type 0
IsEntry (Under entry) = Unit {0}
IsEntry (Names entry) = Unit {0}
IsEntry (Over saying) = Unit {0}
IsEntry saying = ⊥

under_entry : (read : Result Entry TextCause) (saying : Saying) → under_says read ≡ Ok saying → IsEntry saying
under_entry (Ok entry) saying is = let same : Under entry ≡ saying = cc is in subst IsEntry same tt
under_entry (Err cause) saying is = absurd (cc is)

named_entry : (read : Result Entry TextCause) (saying : Saying) → names_says read ≡ Ok saying → IsEntry saying
named_entry (Ok entry) saying is = let same : Names entry ≡ saying = cc is in subst IsEntry same tt
named_entry (Err cause) saying is = absurd (cc is)

-- what content says fits what it names
abbrev Fits : (says : Standing → Result Saying TextCause) → (content : List ℕ) → Saying → Type 0
Fits says content SaysNothing = named_in content ≡ Nothing
Fits says content (Current authority) =
    (named_in content ≡ Authority) × ((other : Standing) → says other ≡ Ok (Current authority))
Fits says content (Declares name key) =
    (named_in content ≡ Authority) × (name_of_mark (mark_in content) ≡ Some name)
Fits says content saying = is_entry (named_in content) ≡ true

entry_fits : (says : Standing → Result Saying TextCause) (content : List ℕ) (saying : Saying) → IsEntry saying → is_entry (named_in content) ≡ true
    → Fits says content saying
entry_fits says content SaysNothing is entry = absurd is
entry_fits says content (Current authority) is entry = absurd is
entry_fits says content (Declares name key) is entry = absurd is
entry_fits says content (Under named) is entry = entry
entry_fits says content (Names named) is entry = entry
entry_fits says content (Over saying) is entry = entry

-- what names certificates names an entry
ending_entry : (says : Standing → Result Saying TextCause) (content : List ℕ) (saying : Saying) → named_in content ≡ Certificate → Fits says content saying
    → IsEntry saying
ending_entry says content SaysNothing ends fits = absurd (cc (sym ends ∙ fits))
ending_entry says content (Current authority) ends fits = absurd (cc (sym ends ∙ fits.0))
ending_entry says content (Declares name key) ends fits = absurd (cc (sym ends ∙ fits.0))
ending_entry says content (Under entry) ends fits = tt
ending_entry says content (Names entry) ends fits = tt
ending_entry says content (Over saying) ends fits = tt

-- ---- content with a word

read_current : (read : Result (List ℕ) TextCause) (saying : Saying) → current_says read ≡ Ok saying
    → (authority : List ℕ) × (saying ≡ Current authority) × (current_says read ≡ Ok (Current authority))
read_current (Ok authority) saying is = (authority, cc is, refl)
read_current (Err cause) saying is = absurd (cc is)

module _ (line content given : List ℕ) (says : Standing → Result Saying TextCause) (current : Option (List ℕ)) (saying : Saying) where
  current_fits : (read : Result (List ℕ) TextCause) → named_in content ≡ Authority → ((other : Standing) → says other ≡ current_says read)
      → current_says read ≡ Ok saying → Fits says content saying
  current_fits read named each is =
      let it = read_current read saying is in rw it.1 (named, λ other. each other ∙ it.2)

  word_fits : (word : Word) → named_in content ≡ word_named_by word → ((other : Standing) → says other ≡ word_says other.current line word given)
      → word_says current line word given ≡ Ok saying → Fits says content saying
  word_fits words_of.Authority named each is = current_fits (authority_in given) named each is
  word_fits words_of.AuthorityBlob named each is = current_fits (authority_blob_in given) named each is
  word_fits words_of.Serial named each is = entry_fits says content saying (under_entry _ saying is) (ap is_entry named)
  word_fits words_of.Id named each is = entry_fits says content saying (under_entry _ saying is) (ap is_entry named)
  word_fits words_of.IdHex named each is = entry_fits says content saying (under_entry _ saying is) (ap is_entry named)
  word_fits words_of.Key named each is = entry_fits says content saying (named_entry _ saying is) (ap is_entry named)
  word_fits words_of.KeyBlob named each is = entry_fits says content saying (named_entry _ saying is) (ap is_entry named)
  word_fits words_of.Sha1 named each is = entry_fits says content saying (named_entry _ saying is) (ap is_entry named)
  word_fits words_of.Sha256 named each is = entry_fits says content saying (named_entry _ saying is) (ap is_entry named)
  word_fits words_of.Hash named each is = entry_fits says content saying (named_entry _ saying is) (ap is_entry named)

-- ---- content without a word

module _ (says : Standing → Result Saying TextCause) (saying : Saying) where
  bare_entered : (byte : ℕ) (bytes : List ℕ) → order_in (byte ∷ bytes) ≡ None → mark_in (byte ∷ bytes) ≡ None → is_entry (named_in (byte ∷ bytes)) ≡ true
  bare_entered byte bytes none unmarked = elim (cases_Bool (is_plain_key (byte ∷ bytes))) [
    | inl plain ↦ rw (none, unmarked, plain) refl
    | inr other ↦ rw (none, unmarked, other) refl
  ]

  key_line_fits : (content : List ℕ) → order_in content ≡ None → mark_in content ≡ None → key_line_says content ≡ Ok saying → Fits says content saying
  key_line_fits [] none unmarked is = let same : saying ≡ SaysNothing = cc (sym is) in rw (same, none, unmarked) refl
  key_line_fits (byte ∷ bytes) none unmarked is =
      entry_fits says (byte ∷ bytes) saying (named_entry _ saying is) (bare_entered byte bytes none unmarked)

  named_fits : (content : List ℕ) (mark : Mark) (given : List ℕ) (read : Result (List ℕ) TextCause)
      → order_in content ≡ None → mark_in content ≡ Some mark → given_behind mark.rest ≡ Some given
      → name_says mark.name read ≡ Ok saying → Fits says content saying
  named_fits content mark given (Ok key) none found behind is =
      let same : saying ≡ Declares mark.name key = cc (sym is) in
      rw same (rw (none, found, behind) refl, rw (found, behind) refl)
  named_fits content mark given (Err cause) none found behind is = absurd (cc is)

  mark_fits : (names : Standing) (line content : List ℕ) (mark : Mark) → order_in content ≡ None
      → mark_in content ≡ Some mark → mark_says names.names line mark.name mark.rest ≡ Ok saying → Fits says content saying
  mark_fits names line content mark none found is = go (given_behind mark.rest) refl
    where
      go : (given : Option (List ℕ)) → given_behind mark.rest ≡ given → Fits says content saying
      go (Some given) behind =
          named_fits content mark given (declares names.names mark.name given) none found behind
          (ap (mark_with names.names line mark.name mark.rest) (sym behind) ∙ is)
      go None behind =
          entry_fits says content saying (under_entry _ saying (ap (mark_with names.names line mark.name mark.rest) (sym behind) ∙ is))
          (rw (none, found, behind) refl)

  unmarked_fits : (standing : Standing) (line content : List ℕ) (found : Option Mark) → order_in content ≡ None
      → mark_in content ≡ found → unmarked_says standing line content found ≡ Ok saying → Fits says content saying
  unmarked_fits standing line content None none found is = key_line_fits content none found is
  unmarked_fits standing line content (Some mark) none found is = mark_fits standing line content mark none found is

content_fits : (standing : Standing) (line content : List ℕ) (saying : Saying) → content_says standing line content ≡ Ok saying
    → Fits (λ other. content_says other line content) content saying
unfolding content_says
content_fits standing line content saying is = go (order_in content) refl
  where
    go : (found : Option Order) → order_in content ≡ found → Fits (λ other. order_says other line content (order_in content)) content saying
    go None found =
        unmarked_fits _ saying standing line content (mark_in content) found refl (ap (order_says standing line content) (sym found) ∙ is)
    go (Some order) found =
        word_fits line content order.given _ standing.current saying order.word (rw found refl) (λ other. ap (order_says other line content) found)
        (ap (order_says standing line content) (sym found) ∙ is)

-- ---- content with a last day

ended_entry : (over : Bool) (read : Result Saying TextCause) (saying : Saying) → ((said : Saying) → read ≡ Ok said → IsEntry said)
    → unless_over over read ≡ Ok saying → IsEntry saying
ended_entry true (Ok said) saying entry is = let same : Over said ≡ saying = cc is in subst IsEntry same tt
ended_entry false (Ok said) saying entry is = let same : said ≡ saying = cc is in subst IsEntry same (entry said refl)
ended_entry over (Err cause) saying entry is = absurd (cc is)

ends_certificate : (named : Named) → can_end named ≡ true → named ≡ Certificate
ends_certificate Certificate is = refl
ends_certificate named is = absurd (cc is)

ending_entered : (standing : Standing) (line content : List ℕ) (day : Option ℤ) (saying : Saying) → ending_says standing line content day ≡ Ok saying → IsEntry saying
ending_entered standing line content None saying is = absurd (cc is)
ending_entered standing line content (Some day) saying is = elim (cases_Bool (can_end (named_in content))) [
  | inl ends ↦
      ended_entry (is_over standing.today day) (content_says standing line content) saying
      (λ said read. ending_entry _ content said (ends_certificate (named_in content) ends) (content_fits standing line content said read)) (rw ends at is)
  | inr never ↦ absurd (let e = rw never at is in cc e)
]

-- ---- the whole line

-- a line says what its content says, whatever stands
fits_again : (one other : Standing → Result Saying TextCause) (content : List ℕ) (saying : Saying) → ((standing : Standing) → other standing ≡ one standing)
    → Fits one content saying → Fits other content saying
fits_again one other content SaysNothing same fits = fits
fits_again one other content (Current authority) same fits = (fits.0, λ standing. same standing ∙ fits.1 standing)
fits_again one other content (Declares name key) same fits = fits
fits_again one other content (Under entry) same fits = fits
fits_again one other content (Names entry) same fits = fits
fits_again one other content (Over saying) same fits = fits

until_fits : (standing : Standing) (line content : List ℕ) (saying : Saying) → (found : Option (List ℕ)) → until_in content ≡ found
    → until_says standing line content found ≡ Ok saying → Fits (λ other. until_says other line content (until_in content)) content saying
until_fits standing line content saying (Some behind) found is =
    entry_fits _ content saying (ending_entered standing line (dated_content behind) (last_day behind) saying is) (ap is_entry (until_named content behind found))
until_fits standing line content saying None found is = elim (cases_Bool (is_misplaced line content)) [
  | inl misplaced ↦ absurd (let e = rw misplaced at is in cc e)
  | inr whole ↦
      fits_again (λ other. content_says other line content) (λ other. until_says other line content (until_in content)) content saying
      (λ other. rw (found, whole) refl) (content_fits standing line content saying (rw whole at is))
]

line_fits : (standing : Standing) (line : List ℕ) (saying : Saying) → line_says standing line ≡ Ok saying
    → Fits (λ other. line_says other line) (bare_line line) saying
unfolding line_says
line_fits standing line saying is = until_fits standing line (bare_line line) saying (until_in (bare_line line)) refl is

-- the kind of a line by what it names
entry_content : (has : Bool) (named : Named) → is_entry named ≡ true → named_content has named ≡ Entries
entry_content has Nothing is = absurd (cc is)
entry_content has Authority is = absurd (cc is)
entry_content has named is = refl

-- ---- lines

more_entries : (first later : Content) → first ≢ Entries → more first later ≡ Entries → later ≡ Entries
more_entries Blank later other is = is
more_entries Notes Entries other is = refl
more_entries Notes Notes other is = absurd (cc is)
more_entries Notes Blank other is = absurd (cc is)
more_entries Entries later other is = absurd (other refl)

more_later : (first later : Content) → later ≡ Entries → more first later ≡ Entries
more_later Blank Entries is = refl
more_later Notes Entries is = refl
more_later Entries Entries is = refl
more_later first Notes is = absurd (cc is)
more_later first Blank is = absurd (cc is)

bare_other : (has : Bool) → named_content has Nothing ≢ Entries
bare_other true is = cc is
bare_other false is = cc is

-- ---- lines that are over

some_over : (over : ℕ) → (one_more_over (record (first_standing 0) { over = over })).over ≢ 0
some_over over none = omega (arith, none)

-- what stands after a line that says this has lines that are over, if there were some
kept_over : (saying : Saying) (standing : Standing) → standing.over ≢ 0 → (standing_after saying standing).over ≢ 0
kept_over SaysNothing standing some = some
kept_over (Current authority) standing some = some
kept_over (Declares name key) standing some = some
kept_over (Under entry) standing some = some
kept_over (Names entry) standing some = some
kept_over (Over saying) standing some = some_over (standing_after saying standing).over

entered_over : (entry : Option Entry) (later : LineEntries) → (with_entry entry later).standing ≡ later.standing
entered_over None later = refl
entered_over (Some entry) later = refl

over_later : (number : ℕ) (standing : Standing) (says : Result Saying TextCause) (later : Standing → LineEntries) → standing.over ≢ 0
    → ((after : Standing) → after.over ≢ 0 → (later after).standing.over ≢ 0) → (before_later number standing says later).standing.over ≢ 0
over_later number standing (Err cause) later some each = some
over_later number standing (Ok saying) later some each =
    let after = standing_after saying standing in
    subst (λ (s : Standing). s.over ≢ 0) (sym (entered_over (entry_said saying) (later after))) (each after (kept_over saying standing some))

still_over : (lines : List (List ℕ)) (standing : Standing) (number : ℕ) → standing.over ≢ 0 → (lines_from standing number lines).standing.over ≢ 0
still_over [] standing number some = some
still_over (line ∷ lines) standing number some =
    over_later number standing (line_says standing line) (λ after. lines_from after (number + 1) lines) some
    (λ after over. still_over lines after (number + 1) over)

-- what lines say, and their entries
abbrev IsSaid : Content → LineEntries → Type 0
IsSaid content read = (content ≡ Entries → HasSome read) × (HasSome read → content ≡ Entries)

-- a line that names no entry, before others
noted_said : (content rest : Content) (later : LineEntries) → content ≡ Notes → IsSaid rest later → IsSaid (more content rest) later
noted_said content rest later notes below = (
  λ entries. below.0 (more_entries content rest (λ entry. cc (sym entry ∙ notes)) entries),
  λ some. more_later content rest (below.1 some),
)

entered_said : (line : List ℕ) (rest : Content) (entry : Entry) (read : LineEntries) → line_content line ≡ Entries
    → IsSaid (more (line_content line) rest) (with_entry (Some entry) read)
entered_said line rest entry read is = (λ entries. inl (λ empty. cc empty), λ some. rw is refl)

module _ (number : ℕ) (standing : Standing) (line : List ℕ) (rest : Content) (later : Standing → LineEntries) (fresh : standing.over ≡ 0)
    (said : (after : Standing) → after.over ≡ 0 → (later after).fault ≡ None → IsSaid rest (later after))
    (over : (after : Standing) → after.over ≢ 0 → (later after).standing.over ≢ 0) where
  -- A line before others, which say what they have.
  line_said : (says : Result Saying TextCause) → line_says standing line ≡ says → (before_later number standing says later).fault ≡ None
      → IsSaid (more (line_content line) rest) (before_later number standing says later)
  line_said (Ok SaysNothing) is none =
      let fits = line_fits standing line SaysNothing is in
      let other : line_content line ≢ Entries = rw fits (bare_other (list_any is_hash line)) in
      let below = said standing fresh none in
      (λ entries. below.0 (more_entries (line_content line) rest other entries), λ some. more_later (line_content line) rest (below.1 some))
  line_said (Ok (Current authority)) is none =
      let fits = line_fits standing line (Current authority) is in
      let after = standing_after (Current authority) standing in
      noted_said (line_content line) rest (later after) (rw fits.0 refl) (said after fresh none)
  line_said (Ok (Declares name key)) is none =
      let fits = line_fits standing line (Declares name key) is in
      let after = standing_after (Declares name key) standing in
      noted_said (line_content line) rest (later after) (rw fits.0 refl) (said after fresh none)
  line_said (Ok (Under entry)) is none =
      entered_said line rest entry (later standing) (entry_content (list_any is_hash line) _ (line_fits standing line (Under entry) is))
  line_said (Ok (Names entry)) is none =
      entered_said line rest entry (later (standing_after (Names entry) standing)) (entry_content (list_any is_hash line) _ (line_fits standing line (Names entry) is))
  line_said (Ok (Over saying)) is none =
      let entry : line_content line ≡ Entries = entry_content (list_any is_hash line) _ (line_fits standing line (Over saying) is) in
      let after = standing_after (Over saying) standing in
      (λ entries. inr (over after (some_over (standing_after saying standing).over)), λ some. rw entry refl)
  line_said (Err cause) is none = absurd (cc none)

-- Lines without a fault have an entry exactly where they say one.
entries_said : (lines : List (List ℕ)) (standing : Standing) (number : ℕ) → standing.over ≡ 0 → (lines_from standing number lines).fault ≡ None
    → IsSaid (lines_content lines) (lines_from standing number lines)
entries_said [] standing number fresh none = (
  λ is. absurd (cc is),
  λ some. elim some [
    | inl entries ↦ absurd (entries refl)
    | inr over ↦ absurd (over fresh)
  ],
)
entries_said (line ∷ lines) standing number fresh none =
    line_said number standing line (lines_content lines) (λ after. lines_from after (number + 1) lines) fresh
    (λ after new fine. entries_said lines after (number + 1) new fine) (λ after over. still_over lines after (number + 1) over)
    (line_says standing line) refl none

-- a comment or an authority is in the line itself, or in one of those behind it
note_before : (line : List ℕ) (lines : List (List ℕ)) → HasNote lines → HasNote (line ∷ lines)
note_before line lines has = record {
  before = line ∷ has.before;
  line = has.line;
  after = has.after;
  parts = ap (λ (ls : List (List ℕ)). line ∷ ls) has.parts;
  is_note = has.is_note;
}

note_first : (line : List ℕ) (lines : List (List ℕ)) → IsNote line → HasNote (line ∷ lines)
note_first line lines is = record { before = []; line = line; after = lines; parts = refl; is_note = is }

more_notes : (first later : Content) → more first later ≡ Notes → (first ≡ Notes) ⊎ (later ≡ Notes)
more_notes Blank later is = inr is
more_notes Notes later is = inl refl
more_notes Entries later is = absurd (cc is)

bare_comment : (has : Bool) → named_content has Nothing ≡ Notes → has ≡ true
bare_comment true is = refl
bare_comment false is = absurd (cc is)

first_or_later : (line : List ℕ) (lines : List (List ℕ)) → more (line_content line) (lines_content lines) ≡ Notes → (line_content line ≡ Notes → IsNote line)
    → (lines_content lines ≡ Notes → HasNote lines) → HasNote (line ∷ lines)
first_or_later line lines is note rest = elim (more_notes (line_content line) (lines_content lines) is) [
  | inl first ↦ note_first line lines (note first)
  | inr later ↦ note_before line lines (rest later)
]

entered_no_note : (line : List ℕ) (lines : List (List ℕ)) → more (line_content line) (lines_content lines) ≡ Notes
    → is_entry (named_in (bare_line line)) ≡ true → HasNote (line ∷ lines)
entered_no_note line lines is entry =
    let named : line_content line ≡ Entries = entry_content (list_any is_hash line) _ entry in
    let whole : more (line_content line) (lines_content lines) ≡ Entries = rw named refl in
    absurd (cc (sym is ∙ whole))

line_noted : (number : ℕ) (standing : Standing) (line : List ℕ) (lines : List (List ℕ)) (later : Standing → LineEntries)
    → ((after : Standing) → (later after).fault ≡ None → lines_content lines ≡ Notes → HasNote lines)
    → more (line_content line) (lines_content lines) ≡ Notes
    → (says : Result Saying TextCause) → line_says standing line ≡ says → (before_later number standing says later).fault ≡ None → HasNote (line ∷ lines)
line_noted number standing line lines later rest is (Ok SaysNothing) says none =
    let fits = line_fits standing line SaysNothing says in
    first_or_later line lines is (λ notes. inl (bare_comment (list_any is_hash line) (rw fits at notes))) (rest standing none)
line_noted number standing line lines later rest is (Ok (Current authority)) says none =
    let fits = line_fits standing line (Current authority) says in
    first_or_later line lines is (λ notes. inr (inl (authority, fits.1))) (rest (standing_after (Current authority) standing) none)
line_noted number standing line lines later rest is (Ok (Declares name key)) says none =
    let fits = line_fits standing line (Declares name key) says in
    first_or_later line lines is (λ notes. inr (inr (name, fits.1))) (rest (standing_after (Declares name key) standing) none)
line_noted number standing line lines later rest is (Ok (Under entry)) says none =
    entered_no_note line lines is (line_fits standing line (Under entry) says)
line_noted number standing line lines later rest is (Ok (Names entry)) says none =
    entered_no_note line lines is (line_fits standing line (Names entry) says)
line_noted number standing line lines later rest is (Ok (Over saying)) says none =
    entered_no_note line lines is (line_fits standing line (Over saying) says)
line_noted number standing line lines later rest is (Err cause) says none = absurd (cc none)

-- Lines without a fault have a note if they say one and no entry.
pub notes_said : (lines : List (List ℕ)) (standing : Standing) (number : ℕ) → (lines_from standing number lines).fault ≡ None
    → lines_content lines ≡ Notes → HasNote lines
notes_said [] standing number none is = absurd (cc is)
notes_said (line ∷ lines) standing number none is =
    line_noted number standing line lines (λ after. lines_from after (number + 1) lines)
    (λ after fine notes. notes_said lines after (number + 1) fine notes) is (line_says standing line) refl none

noted : (has : Bool) (named : Named) → has ≡ true → named_content has named ≢ Blank
noted true Nothing is blank = absurd (cc blank)
noted true Authority is blank = absurd (cc blank)
noted true named is blank = absurd (cc blank)
noted false named is blank = absurd (cc is)

authority_not_blank : (has : Bool) (named : Named) → named ≡ Authority → named_content has named ≢ Blank
authority_not_blank has named is blank = let never = rw is at blank in cc never

-- a line that gives a name to an authority
given_named : (content name : List ℕ) → name_of_mark (mark_in content) ≡ Some name → named_in content ≡ Authority
given_named content name given = go (mark_in content) refl given
  where
    go : (found : Option Mark) → mark_in content ≡ found → name_of_mark found ≡ Some name → named_in content ≡ Authority
    go None found is = absurd (cc is)
    go (Some mark) found is = behind (given_behind mark.rest) refl is
      where
        behind : (given : Option (List ℕ)) → given_behind mark.rest ≡ given → name_if_given mark.name given ≡ Some name → named_in content ≡ Authority
        behind None at same = absurd (cc same)
        behind (Some text) at same = rw (marked_unordered content mark found, found, at) refl

note_is : (line : List ℕ) → IsNote line → line_content line ≢ Blank
note_is line (inl has) = noted (list_any is_hash line) (named_in (bare_line line)) has
note_is line (inr (inl (authority, says))) =
    authority_not_blank (list_any is_hash line) _ (line_fits (first_standing 0) line (Current authority) (says (first_standing 0))).0
note_is line (inr (inr (name, given))) =
    authority_not_blank (list_any is_hash line) _ (given_named (bare_line line) name given)

more_blank : (first later : Content) → more first later ≡ Blank → (first ≡ Blank) × (later ≡ Blank)
more_blank Blank later is = (refl, is)
more_blank Notes Blank is = absurd (cc is)
more_blank Notes Notes is = absurd (cc is)
more_blank Notes Entries is = absurd (cc is)
more_blank Entries later is = absurd (cc is)

note_among : (before : List (List ℕ)) (line : List ℕ) (after : List (List ℕ)) → IsNote line → lines_content (before ++ line ∷ after) ≢ Blank
note_among [] line after is blank = note_is line is (more_blank (line_content line) (lines_content after) blank).0
note_among (first ∷ before) line after is blank =
    note_among before line after is (more_blank (line_content first) (lines_content (before ++ line ∷ after)) blank).1

only_notes : (content : Content) → content ≢ Blank → content ≢ Entries → content ≡ Notes
only_notes Blank some none = absurd (some refl)
only_notes Notes some none = refl
only_notes Entries some none = absurd (none refl)

pub entries_where_said : (standing : Standing) (text : List ℕ) → standing.over ≡ 0 → (lines_with standing text).fault ≡ None
    → (content_of text ≡ Entries) ↔ HasSome (lines_with standing text)
unfolding lines_with content_of
entries_where_said standing text fresh none = entries_said (slice_split is_newline text) (beginning standing) 1 fresh none

pub notes_where_said : (standing : Standing) (text : List ℕ) → standing.over ≡ 0 → (lines_with standing text).fault ≡ None
    → (HasSome (lines_with standing text) → ⊥) → (content_of text ≡ Notes) ↔ HasNote (slice_split is_newline text)
unfolding lines_with content_of
notes_where_said standing text fresh none nothing = (
  notes_said (slice_split is_newline text) (beginning standing) 1 none,
  λ has. only_notes (lines_content (slice_split is_newline text))
      (λ blank. note_among has.before has.line has.after has.is_note (ap lines_content (sym has.parts) ∙ blank))
      (λ entries. nothing ((entries_said (slice_split is_newline text) (beginning standing) 1 fresh none).0 entries)),
)
