-- Texts whose entries are added one after another.
use Rattle.std.proofs.Common.{◌≡◌, ℕ, ◌+◌, ◌≤◌, ◌<◌, add-one, drop-cons, List, [], ◌∷◌, ◌++◌, length, drop, get_or, Result, Ok, Err, refl, sym, ap, ◌∙◌, arith, append_assoc, length-append}
use Rattle.std.proofs.lemmas.List.{append-nil}
use Rattle.run_faults.specs.declared.cause.Cause.TheVariants as causes
use Rattle.run_faults.specs.declared.spec_cause.SpecCause.TheVariants as specs
use Rattle.krl_entries.specs.Revocations.{Revocations, held}
use Rattle.krl_types.specs.Entry.{Entry}
use Rattle.text_entries.specs.Lines.{lines_with}
use Rattle.text_entries.specs.Reading.{ReadsText}
use Rattle.text_entries.specs.Says.{first_standing}
use Rattle.text_entries.specs.declared.standing.Standing.{Standing}
use Rattle.text_entries.specs.declared.text_cause.TextCause.{TextCause}
use Rattle.text_entries.specs.declared.text_cause.TextCause.TheVariants as text_causes
use Rattle.text_run.specs.Fault.{MakeFault, line_fault}
use Rattle.text_run.specs.Making.{AddsText, AddsTexts, HoldsMore, IsMakeFault, LacksMemoryAt, TextEntries, Text, bytes_from, only_entries, text_from, texts_entries, texts_from, texts_on, then_from}
use Rattle.text_run.specs.declared.make_fault.MakeCause.{MakeCause}
use Rattle.text_run.specs.declared.make_fault.MakeCause.TheVariants.{Run}

-- ---- one text

pub bytes_added : (standing after : Standing) (name bytes : List ℕ) (old new : Revocations)
    → ReadsText {A = Unit {0}} bytes (Ok tt) standing after old new
    → held new ≤ held old + length (lines_with standing bytes).entries
    → AddsText {A = Unit {0}} name (bytes_from standing name bytes) (Ok tt) after old new
bytes_added standing after name bytes old new reads few = (
  record { entries = (lines_with standing bytes).entries; standing = (lines_with standing bytes).standing },
  rw reads.0 refl,
  reads.1,
  record { means = reads.2; held_is = few },
)

pub bytes_stop : (standing after : Standing) (name bytes : List ℕ) (number : ℕ) (cause : TextCause) (old new : Revocations)
    → ReadsText {A = Unit {0}} bytes (Err (record { line = number; cause = cause })) standing after old new
    → AddsText {A = Unit {0}} name (bytes_from standing name bytes) (Err (line_fault name bytes number cause)) after old new
bytes_stop standing after name bytes number (text_causes.Spec specs.NoMemory) old new reads = (refl, refl)
bytes_stop standing after name bytes number cause old new reads = rw reads.0 refl

-- ---- one after another

abbrev Read : Type 0
Read = Result TextEntries MakeFault

then_none : (read : Read) (standing : Standing) → then_from (Ok (record { entries = []; standing = standing })) (λ after. read) ≡ read
then_none (Ok more) standing = refl
then_none (Err fault) standing = refl

then_same : (first : Read) (one other : Standing → Read) → ((standing : Standing) → one standing ≡ other standing)
    → then_from first one ≡ then_from first other
then_same (Ok read) one other same = rw (same read.standing) refl
then_same (Err fault) one other same = refl

third_of : (read more : TextEntries) (third : Read)
    → then_from (Ok read) (λ after. then_from (Ok more) (λ later. third))
    ≡ then_from (Ok (record more { entries = read.entries ++ more.entries })) (λ later. third)
third_of read more (Err fault) = refl
third_of read more (Ok last) =
    ap (λ (entries : List Entry). Ok (record last { entries = entries })) (sym (append_assoc read.entries more.entries last.entries))

second_of : (read : TextEntries) (second : Read) (third : Standing → Read)
    → then_from (Ok read) (λ after. then_from second third) ≡ then_from (then_from (Ok read) (λ after. second)) third
second_of read (Err fault) third = refl
second_of read (Ok more) third = third_of read more (third more.standing)

then_both : (first : Read) (second third : Standing → Read)
    → then_from first (λ after. then_from (second after) third) ≡ then_from (then_from first second) third
then_both (Err fault) second third = refl
then_both (Ok read) second third = second_of read (second read.standing) third

-- Texts give the same as the first ones and then the others.
entries_joined : (standing : Standing) (front back : List Text)
    → texts_from standing (front ++ back) ≡ then_from (texts_from standing front) (λ after. texts_from after back)
entries_joined standing [] back = sym (then_none (texts_from standing back) standing)
entries_joined standing (text ∷ front) back =
    then_same (text_from standing text) (λ after. texts_from after (front ++ back)) (λ after. then_from (texts_from after front) (λ later. texts_from later back))
    (λ after. entries_joined after front back)
    ∙ then_both (text_from standing text) (λ after. texts_from after front) (λ later. texts_from later back)

-- Texts were read, and others are left.
pub record AreRead (today : ℕ) (texts left : List Text) (standing : Standing) : Type 0 where
  pub before : List Text
  pub parts : texts ≡ before ++ left
  pub entries : List Entry
  pub read : texts_from (first_standing today) before ≡ Ok (record { entries = entries; standing = standing })

abbrev pub none_read : (today : ℕ) (texts : List Text) → AreRead today texts texts (first_standing today)
none_read today texts = record { before = []; parts = refl; entries = []; read = refl }

-- The same, and their entries are held.
pub record IsAt (today : ℕ) (texts left : List Text) (standing : Standing) (old now : Revocations) : Type 0 where
  pub are : AreRead today texts left standing
  pub held_are : HoldsMore old now are.entries

pub none_added : (today : ℕ) (texts : List Text) (r : Revocations) → IsAt today texts texts (first_standing today) r r
none_added today texts r = record {
  are = none_read today texts;
  held_are = record { means = λ entries means. rw (append-nil entries) means; held_is = omega arith };
}

-- what the texts before give, and one more
pub one_more : (today : ℕ) (before : List Text) (text : Text) (entries : List Entry) (standing : Standing) (more : TextEntries)
    → texts_from (first_standing today) before ≡ Ok (record { entries = entries; standing = standing }) → text_from standing text ≡ Ok more
    → texts_from (first_standing today) (before ++ text ∷ []) ≡ Ok (record more { entries = entries ++ more.entries })
one_more today before text entries standing more front back =
    entries_joined (first_standing today) before (text ∷ [])
    ∙ ap (λ (r : Read). then_from r (λ after. texts_from after (text ∷ []))) front
    ∙ ap (λ (r : Read). then_from (Ok (record { entries = entries; standing = standing })) (λ after. then_from r (λ later. texts_from later []))) back
    ∙ ap (λ (es : List Entry). Ok (record more { entries = entries ++ es })) (append-nil more.entries)

abbrev pub text_read : (today : ℕ) (texts : List Text) (text : Text) (left : List Text) (standing : Standing) (more : TextEntries)
    → AreRead today texts (text ∷ left) standing → text_from standing text ≡ Ok more → AreRead today texts left more.standing
text_read today texts text left standing more are read = record {
  before = are.before ++ text ∷ [];
  parts = are.parts ∙ sym (append_assoc are.before (text ∷ []) left);
  entries = are.entries ++ more.entries;
  read = one_more today are.before text are.entries standing more are.read read;
}

pub text_added : (today : ℕ) (texts : List Text) (text : Text) (left : List Text) (standing after : Standing) (old mid new : Revocations)
    → IsAt today texts (text ∷ left) standing old mid
    → AddsText {A = Unit {0}} text.name (text_from standing text) (Ok tt) after mid new → IsAt today texts left after old new
text_added today texts text left standing after old mid new at (more, read, same, holds) =
    let entries : List Entry = at.are.entries in
    rw same (record {
      are = text_read today texts text left standing more at.are read;
      held_are = record {
        means = λ others means. rw (← append_assoc others entries more.entries) (holds.means (others ++ entries) (at.held_are.means others means));
        held_is = omega (arith, at.held_are.held_is, holds.held_is, length-append entries more.entries);
      };
    })

-- the first fault of all texts is that of the first text that is left
fault_after : (today : ℕ) (texts : List Text) (text : Text) (left : List Text) (standing : Standing) (fault : MakeFault)
    → AreRead today texts (text ∷ left) standing → text_from standing text ≡ Err fault → texts_entries today texts ≡ Err fault
fault_after today texts text left standing fault at is =
    ap (λ (ts : List Text). texts_entries today ts) at.parts
    ∙ ap only_entries (entries_joined (first_standing today) at.before (text ∷ left))
    ∙ ap (λ (r : Read). only_entries (then_from r (λ after. texts_from after (text ∷ left)))) at.read
    ∙ ap (λ (r : Read). only_entries (then_from (Ok (record { entries = at.entries; standing = standing })) (λ after. then_from r (λ later. texts_from later left)))) is

stops_for : (today : ℕ) (texts : List Text) (text : Text) (left : List Text) (standing : Standing) (fault : MakeFault)
    → AreRead today texts (text ∷ left) standing
    → (cause : MakeCause) → IsMakeFault (λ other. other ≡ text.name) cause (text_from standing text) fault
    → IsMakeFault (LacksMemoryAt today texts) cause (texts_entries today texts) fault
stops_for today texts text left standing fault at (Run causes.NoMemory) (whole, named) = (
  whole,
  record {
    before = at.before;
    text = text;
    after = left;
    parts = at.parts;
    named = named;
    entries = at.entries;
    faultless = ap only_entries at.read;
  },
)
stops_for today texts text left standing fault at cause is = fault_after today texts text left standing fault at is

pub text_stops : (today : ℕ) (texts : List Text) (text : Text) (left : List Text) (standing : Standing) (fault : MakeFault)
    → AreRead today texts (text ∷ left) standing
    → IsMakeFault (λ other. other ≡ text.name) fault.cause (text_from standing text) fault
    → IsMakeFault (LacksMemoryAt today texts) fault.cause (texts_entries today texts) fault
text_stops today texts text left standing fault at is = stops_for today texts text left standing fault at fault.cause is

pub all_read : (today : ℕ) (texts : List Text) (standing : Standing) (are : AreRead today texts [] standing)
    → texts_on today texts ≡ Ok (record { entries = are.entries; standing = standing })
all_read today texts standing are = ap (λ (ts : List Text). texts_on today ts) (are.parts ∙ append-nil are.before) ∙ are.read

pub all_added : (today : ℕ) (texts : List Text) (standing : Standing) (old new : Revocations) → IsAt today texts [] standing old new
    → AddsTexts today texts (Ok standing) old new
all_added today texts standing old new at = (at.are.entries, all_read today texts standing at.are, at.held_are)

-- the texts from a place on are the one there and the others
pub texts_next : (texts : List Text) (i : ℕ) (text : Text) → text ≡ get_or texts i text → i < length texts → drop i texts ≡ text ∷ drop (i + 1) texts
texts_next texts i text is lt =
    let parts : drop i texts ≡ get_or texts i text ∷ drop (i + 1) texts = rw add-one (drop-cons texts i text lt) in
    parts ∙ ap (λ (one : Text). one ∷ drop (i + 1) texts) (sym is)
