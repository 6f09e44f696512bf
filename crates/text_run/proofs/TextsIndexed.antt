-- Texts whose lines are indexed one after another.
use Rattle.std.proofs.Common.{◌≡◌, ℕ, List, [], ◌∷◌, ◌++◌, map, Ok, Err, refl, sym, ap, subst, ◌∙◌, inl, inr, append_assoc}
use Rattle.std.proofs.lemmas.List.{append-nil, map-append}
use Rattle.run_faults.specs.declared.spec_cause.SpecCause.TheVariants as specs
use Rattle.krl_types.specs.Entry.{Entry}
use Rattle.krl_fingerprints.specs.KeysBy.{entries_by}
use Rattle.krl_fingerprints.specs.declared.keys_by.KeysBy.{KeysBy}
use Rattle.krl_fingerprints.proofs.EntriesBy.{append_by, none_by}
use Rattle.text_entries.specs.Lines.{lines_with}
use Rattle.text_entries.specs.Says.{first_standing}
use Rattle.text_entries.specs.declared.standing.Standing.{Standing}
use Rattle.text_entries.specs.declared.text_cause.TextCause.{TextCause}
use Rattle.text_entries.specs.declared.text_cause.TextCause.TheVariants as text_causes
use Rattle.text_index.specs.Indexing.{Indexes, IndexesText as Indexed, IsFault, NamesAuthorities}
use Rattle.text_index.specs.NamingLines.{NamingLine, naming_lines, names_by}
use Rattle.text_index.specs.declared.indexing.TextIndex.{TextIndex}
use Rattle.text_run.specs.Fault.{line_fault}
use Rattle.text_run.specs.Indexed.{IndexesText, IndexesTexts, bytes_named, text_named, texts_named}
use Rattle.text_run.specs.Making.{IsMakeFault, Text, bytes_from, text_from}
use Rattle.text_run.proofs.TextsAdded.{AreRead, all_read, none_read, text_read}

abbrev entry_of : NamingLine → Entry
entry_of line = line.entry

-- ---- one text

pub bytes_indexed : ((by : KeysBy) (standing : Standing) (file text : List ℕ) → map (λ line. line.entry) (naming_lines by standing file text) ≡ entries_by by (lines_with standing text).entries)
    → (standing after : Standing) (name bytes : List ℕ) (old new : TextIndex) → Indexed {A = Unit {0}} name bytes (Ok tt) standing after old new
    → IndexesText {A = Unit {0}} name (bytes_from standing name bytes) (Ok tt) after (bytes_named old.by standing name bytes) old new
bytes_indexed law standing after name bytes old new added = (
  record { entries = (lines_with standing bytes).entries; standing = (lines_with standing bytes).standing },
  rw added.0 refl,
  refl,
  law old.by standing name bytes,
  added.1,
  added.2,
)

by_cause : (standing : Standing) (name bytes : List ℕ) (number : ℕ) (cause : TextCause)
    → IsFault (record { line = number; cause = cause }) (lines_with standing bytes).fault
    → IsMakeFault (λ other. other ≡ name) (line_fault name bytes number cause).cause (bytes_from standing name bytes) (line_fault name bytes number cause)
by_cause standing name bytes number (text_causes.Spec specs.NoMemory) is = (refl, refl)
by_cause standing name bytes number cause (inl (memory, first)) = absurd cc
by_cause standing name bytes number cause (inr first) = rw first refl

pub bytes_refused : (standing after : Standing) (name bytes : List ℕ) (number : ℕ) (cause : TextCause) (old new : TextIndex)
    → Indexed {A = Unit {0}} name bytes (Err (record { line = number; cause = cause })) standing after old new
    → IndexesText {A = Unit {0}} name (bytes_from standing name bytes) (Err (line_fault name bytes number cause)) after (bytes_named old.by standing name bytes) old new
bytes_refused standing after name bytes number cause old new is = by_cause standing name bytes number cause is

-- ---- one after another

-- Texts were indexed, and others are left.
pub record AreIndexed (by : KeysBy) (today : ℕ) (texts left : List Text) (standing : Standing) (index : TextIndex) : Type 0 where
  pub by_is : index.by ≡ by
  pub are : AreRead today texts left standing
  pub lines : List NamingLine
  pub indexed : Indexes index lines
  pub named : (later : List Text) → texts_named by (first_standing today) (are.before ++ later) ≡ lines ++ texts_named by standing later
  pub entries_are : map entry_of lines ≡ entries_by by are.entries

pub none_indexed : (by : KeysBy) (today : ℕ) (texts : List Text) (index : TextIndex) → index.by ≡ by → Indexes index [] → AreIndexed by today texts texts (first_standing today) index
none_indexed by today texts index is none = record {
  by_is = is;
  are = none_read today texts;
  lines = [];
  indexed = none;
  named = λ later. refl;
  entries_are = sym (none_by by);
}

pub text_indexed : (by : KeysBy) (today : ℕ) (texts : List Text) (text : Text) (left : List Text) (standing after : Standing) (mid new : TextIndex)
    → AreIndexed by today texts (text ∷ left) standing mid
    → IndexesText {A = Unit {0}} text.name (text_from standing text) (Ok tt) after (text_named mid.by standing text) mid new → AreIndexed by today texts left after new
text_indexed by today texts text left standing after mid new at added =
    let known : IndexesText {A = Unit {0}} text.name (text_from standing text) (Ok tt) after (text_named by standing text) mid new =
    subst (λ (b : KeysBy). IndexesText {A = Unit {0}} text.name (text_from standing text) (Ok tt) after (text_named b standing text) mid new) at.by_is added in
    next_indexed by today texts text left standing after mid new at known
  where
    next_indexed : (by : KeysBy) (today : ℕ) (texts : List Text) (text : Text) (left : List Text) (standing after : Standing) (mid new : TextIndex)
        → AreIndexed by today texts (text ∷ left) standing mid
        → IndexesText {A = Unit {0}} text.name (text_from standing text) (Ok tt) after (text_named by standing text) mid new → AreIndexed by today texts left after new
    next_indexed by today texts text left standing after mid new at (given, read, same, entries, after_is, more) =
        let first = first_standing today in
        let some : List NamingLine = (text_named by standing text).lines in
        let is : after ≡ given.standing = after_is ∙ sym same in
        rw is (record {
          by_is = more.by ∙ at.by_is;
          are = text_read today texts text left standing given at.are read;
          lines = at.lines ++ some;
          indexed = more.adds at.lines at.indexed;
          named = λ later.
              ap (texts_named by first) (append_assoc at.are.before (text ∷ []) later) ∙ at.named (text ∷ later)
              ∙ sym (append_assoc at.lines some (texts_named by (text_named by standing text).standing later))
              ∙ ap (λ (s : Standing). (at.lines ++ some) ++ texts_named by s later) (sym same);
          entries_are = map-append entry_of at.lines some ∙ ap (λ (es : List Entry). es ++ map entry_of some) at.entries_are ∙ ap (λ (es : List Entry). entries_by by at.are.entries ++ es) (entries ∙ ap (λ (b : KeysBy). entries_by b given.entries) at.by_is) ∙ sym (append_by by at.are.entries given.entries);
        })

pub all_indexed : (by : KeysBy) (today : ℕ) (texts : List Text) (standing : Standing) (index named : TextIndex) → AreIndexed by today texts [] standing index
    → NamesAuthorities standing.names index named → IndexesTexts by today texts named
all_indexed by today texts standing index named at names =
    let first = first_standing today in
    let lines_are : at.lines ≡ texts_named by first texts = sym (append-nil at.lines) ∙ sym (at.named []) ∙ ap (texts_named by first) (sym at.are.parts) in
    record {
      given = record { entries = at.are.entries; standing = standing };
      read = all_read today texts standing at.are;
      indexed = record {
        lines = subst (λ (lines : List NamingLine). Indexes named lines) lines_are (names.lines at.lines at.indexed);
        named = λ key. names.named key ∙ ap (λ (b : KeysBy). names_by b standing.names key) at.by_is;
      };
      entries_are = ap (map entry_of) (sym lines_are) ∙ at.entries_are;
    }
