-- The lines of a text, one after another.
use Rattle.std.proofs.Common.{◌≡◌, ◌≤◌, ℕ, ◌+◌, List, [], ◌∷◌, ◌++◌, map, Option, Some, None, Result, Ok, Err, IfSome, refl, sym, ap, subst, ◌∙◌, append_assoc, append-nil, arith, inl, inr, ⊎_elim}
use Rattle.std.specs.List.{cons_option, slice_split}
use Rattle.key_text.specs.Blanks.{before_ending}
use Rattle.key_text.specs.Lines.{is_newline}
use Rattle.krl_spec.specs.Blanks.{after_endings, bare_line}
use Rattle.krl_types.specs.Entry.{Entry}
use Rattle.krl_fingerprints.specs.KeysBy.{entries_by, entry_by}
use Rattle.krl_fingerprints.specs.declared.keys_by.KeysBy.{KeysBy}
use Rattle.krl_fingerprints.specs.declared.keys_by.KeysBy.TheVariants.{Blob, Fingerprint}
use Rattle.krl_fingerprints.proofs.EntriesBy.{none_by}
use Rattle.text_entries.specs.Day.{says_until, until_in}
use Rattle.text_entries.specs.Lines.{LineEntries, before_later, beginning, fault_at, lines_from, lines_with, with_entry}
use Rattle.text_entries.specs.Mark.{mark_in}
use Rattle.text_entries.specs.Says.{Blank, Saying, content_says, entry_said, line_says, standing_after}
use Rattle.text_entries.specs.TextCause.{no_memory}
use Rattle.text_entries.specs.Word.{order_in}
use Rattle.text_entries.specs.declared.standing.Standing.{Standing}
use Rattle.text_entries.specs.declared.text_cause.TextCause.{TextCause}
use Rattle.text_entries.specs.declared.text_fault.TextFault.{TextFault}
use Rattle.text_index.specs.Indexing.{Indexes, IndexesLine, IndexesMore, IsCause, IsFault, line_of}
use Rattle.text_index.specs.NamingLines.{Line, NamingLine, line_at, naming, naming_before, naming_from, naming_lines}
use Rattle.text_index.specs.declared.indexing.TextIndex.{TextIndex}
use Rattle.text_index.specs.declared.text_line.TextLine.{TextLine}

-- ---- the beginning

blank_says : (standing : Standing) → line_says standing [] ≡ Ok Blank
unfolding line_says content_says until_in says_until bare_line after_endings before_ending order_in mark_in
blank_says standing = refl

-- An empty text leaves no authority current.
pub begun : (first : Standing) → (lines_with first []).standing ≡ beginning first
unfolding lines_with
begun first = rw (blank_says (beginning first)) refl

-- ---- faults

-- If there is a fault, it is at this line or a later one.
abbrev FaultFrom : ℕ → Option TextFault → Type 0
FaultFrom number fault = IfSome fault (λ other. number ≤ other.line)

entry_fault : (entry : Option Entry) (lines : LineEntries) → (with_entry entry lines).fault ≡ lines.fault
entry_fault None lines = refl
entry_fault (Some entry) lines = refl

entry_standing : (entry : Option Entry) (lines : LineEntries) → (with_entry entry lines).standing ≡ lines.standing
entry_standing None lines = refl
entry_standing (Some entry) lines = refl

later_from : (number : ℕ) (fault : Option TextFault) → FaultFrom (number + 1) fault → FaultFrom number fault
later_from number None from = from
later_from number (Some fault) from = omega (arith, from)

before_from : (number : ℕ) (standing : Standing) (says : Result Saying TextCause) (later : Standing → LineEntries)
    → ((after : Standing) → FaultFrom (number + 1) (later after).fault) → FaultFrom number (before_later number standing says later).fault
before_from number standing (Ok saying) later from =
    let after = standing_after saying standing in
    subst (FaultFrom number) (sym (entry_fault (entry_said saying) (later after))) (later_from number (later after).fault (from after))
before_from number standing (Err cause) later from = omega arith

fault_from : (standing : Standing) (number : ℕ) (lines : List (List ℕ)) → FaultFrom number (lines_from standing number lines).fault
fault_from standing number [] = tt
fault_from standing number (line ∷ lines) =
    before_from number standing (line_says standing line) (λ after. lines_from after (number + 1) lines) (λ after. fault_from after (number + 1) lines)

pub first_line : (first : Standing) (text : List ℕ) → IfSome (lines_with first text).fault (λ other. 1 ≤ other.line)
unfolding lines_with
first_line first text = fault_from (beginning first) 1 (slice_split is_newline text)

-- ---- the loop over lines

-- These lines are left, with their faults, what stands after them, and their entries behind those that were added.
pub record IsAt (first : Standing) (file text : List ℕ) (passed : ℕ) (rest : List (List ℕ)) (standing : Standing) (old new : TextIndex) : Type 0 where
  pub fault : (lines_from standing (passed + 1) rest).fault ≡ (lines_with first text).fault
  pub standing_is : (lines_from standing (passed + 1) rest).standing ≡ (lines_with first text).standing
  pub so_far : List NamingLine
  pub whole : so_far ++ naming_from old.by standing file (passed + 1) rest ≡ naming_lines old.by first file text
  pub adds : IndexesMore old new so_far

pub none_passed : (first : Standing) (file text : List ℕ) (index : TextIndex) → IsAt first file text 0 (slice_split is_newline text) (beginning first) index index
unfolding lines_with naming_lines
none_passed first file text index = record {
  fault = refl;
  standing_is = refl;
  so_far = [];
  whole = refl;
  adds = record { by = refl; adds = λ lines is. rw (append-nil lines) is };
}

-- what is left after a line that has no fault
line_fault : (standing : Standing) (number : ℕ) (line : List ℕ) (rest : List (List ℕ)) (saying : Saying) → line_says standing line ≡ Ok saying
    → (lines_from standing number (line ∷ rest)).fault ≡ (lines_from (standing_after saying standing) (number + 1) rest).fault
line_fault standing number line rest saying says =
    ap (λ (read : Result Saying TextCause). (before_later number standing read (λ after. lines_from after (number + 1) rest)).fault) says
    ∙ entry_fault (entry_said saying) (lines_from (standing_after saying standing) (number + 1) rest)

line_standing : (standing : Standing) (number : ℕ) (line : List ℕ) (rest : List (List ℕ)) (saying : Saying) → line_says standing line ≡ Ok saying
    → (lines_from standing number (line ∷ rest)).standing ≡ (lines_from (standing_after saying standing) (number + 1) rest).standing
line_standing standing number line rest saying says =
    ap (λ (read : Result Saying TextCause). (before_later number standing read (λ after. lines_from after (number + 1) rest)).standing) says
    ∙ entry_standing (entry_said saying) (lines_from (standing_after saying standing) (number + 1) rest)

line_naming : (by : KeysBy) (standing : Standing) (file : List ℕ) (number : ℕ) (line : List ℕ) (rest : List (List ℕ)) (saying : Saying) → line_says standing line ≡ Ok saying
    → naming_from by standing file number (line ∷ rest)
    ≡ naming (line_at file number line) (entry_by by (entry_said saying)) ++ naming_from by (standing_after saying standing) file (number + 1) rest
line_naming by standing file number line rest saying says =
    ap (λ (read : Result Saying TextCause). naming_before by (line_at file number line) standing read (λ after. naming_from by after file (number + 1) rest)) says

pub line_passed : (first : Standing) (file text : List ℕ) (passed : ℕ) (line : TextLine) (rest : List (List ℕ)) (standing after : Standing) (old mid new : TextIndex)
    → IsAt first file text passed (line.text.now ∷ rest) standing old mid → line_of line ≡ line_at file (passed + 1) line.text.now
    → IndexesLine {A = Unit {0}} line (line_says standing line.text.now) (Ok tt) standing after mid new
    → IsAt first file text (passed + 1) rest after old new
line_passed first file text passed line rest standing after old mid new at place (saying, says, now, more) =
    let own = naming (line_of line) (entry_by old.by (entry_said saying)) in
    let number = passed + 1 in
    let adds = subst (λ (by : KeysBy). IndexesMore mid new (naming (line_of line) (entry_by by (entry_said saying)))) at.adds.by more in
    rw now (record {
      fault = sym (line_fault standing number line.text.now rest saying says) ∙ at.fault;
      standing_is = sym (line_standing standing number line.text.now rest saying says) ∙ at.standing_is;
      so_far = at.so_far ++ own;
      whole =
          append_assoc at.so_far own (naming_from old.by (standing_after saying standing) file (number + 1) rest)
          ∙ ap (λ (l : Line). at.so_far ++ (naming l (entry_by old.by (entry_said saying)) ++ naming_from old.by (standing_after saying standing) file (number + 1) rest)) place
          ∙ ap (λ (lines : List NamingLine). at.so_far ++ lines) (sym (line_naming old.by standing file number line.text.now rest saying says))
          ∙ at.whole;
      adds = record {
        by = adds.by ∙ at.adds.by;
        adds = λ lines is. subst (Indexes new) (append_assoc lines at.so_far own) (adds.adds (lines ++ at.so_far) (at.adds.adds lines is));
      };
    })

-- Adding stops at a line.
pub line_stops : (first : Standing) (file text : List ℕ) (passed : ℕ) (line : List ℕ) (rest : List (List ℕ)) (standing : Standing) (old mid : TextIndex) (cause : TextCause)
    → IsAt first file text passed (line ∷ rest) standing old mid → IsCause cause (line_says standing line) → IsFault (fault_at (passed + 1) cause) (lines_with first text).fault
line_stops first file text passed line rest standing old mid cause at is =
    ⊎_elim
    (λ (lacks : cause ≡ no_memory). inl (lacks, subst (FaultFrom (passed + 1)) at.fault (fault_from standing (passed + 1) (line ∷ rest))))
    (λ (says : line_says standing line ≡ Err cause). inr (sym at.fault ∙ ap (λ (read : Result Saying TextCause). (before_later (passed + 1) standing read (λ after. lines_from after (passed + 1 + 1) rest)).fault) says))
    is

-- ---- the entries of the lines

abbrev entries_in : List NamingLine → List Entry
entries_in lines = map (λ (line : NamingLine). line.entry) lines

one_entry : (line : Line) (entry : Option Entry) (rest : List NamingLine) (entries : List Entry) → entries_in rest ≡ entries → entries_in (naming line entry ++ rest) ≡ cons_option entry entries
one_entry line None rest entries same = same
one_entry line (Some entry) rest entries same = ap (λ (others : List Entry). entry ∷ others) same

seen_before : (by : KeysBy) (entry : Option Entry) (lines : LineEntries) → entries_by by (with_entry entry lines).entries ≡ cons_option (entry_by by entry) (entries_by by lines.entries)
seen_before Blob None lines = refl
seen_before Blob (Some entry) lines = refl
seen_before Fingerprint None lines = refl
seen_before Fingerprint (Some entry) lines = refl

entries_before : (by : KeysBy) (line : Line) (standing : Standing) (number : ℕ) (says : Result Saying TextCause) (later : Standing → List NamingLine) (lines : Standing → LineEntries)
    → ((after : Standing) → entries_in (later after) ≡ entries_by by (lines after).entries)
    → entries_in (naming_before by line standing says later) ≡ entries_by by (before_later number standing says lines).entries
entries_before by line standing number (Ok saying) later lines same =
    let after = standing_after saying standing in
    let entry = entry_said saying in
    one_entry line (entry_by by entry) (later after) (entries_by by (lines after).entries) (same after) ∙ sym (seen_before by entry (lines after))
entries_before by line standing number (Err cause) later lines same = sym (none_by by)

entries_from : (by : KeysBy) (standing : Standing) (file : List ℕ) (number : ℕ) (lines : List (List ℕ))
    → entries_in (naming_from by standing file number lines) ≡ entries_by by (lines_from standing number lines).entries
entries_from by standing file number [] = sym (none_by by)
entries_from by standing file number (line ∷ lines) =
    entries_before by (line_at file number line) standing number (line_says standing line) (λ after. naming_from by after file (number + 1) lines) (λ after. lines_from after (number + 1) lines)
    (λ after. entries_from by after file (number + 1) lines)

pub entries_are : (by : KeysBy) (standing : Standing) (file text : List ℕ)
    → map (λ (line : NamingLine). line.entry) (naming_lines by standing file text) ≡ entries_by by (lines_with standing text).entries
unfolding lines_with naming_lines
entries_are by standing file text = entries_from by (beginning standing) file 1 (slice_split is_newline text)
