-- Lines of a text, read one after another.
use Rattle.std.proofs.Common.{◌≡◌, ℕ, ◌+◌, ◌≤◌, List, [], ◌∷◌, ◌++◌, length, Option, Some, None, Result, Ok, Err, refl, sym, ap, ◌∙◌, arith, append_assoc}
use Rattle.std.proofs.lemmas.List.{length-append, append-nil}
use Rattle.std.specs.List.{slice_split}
use Rattle.key_text.specs.Lines.{is_newline}
use Rattle.run_faults.specs.declared.spec_cause.SpecCause.TheVariants as specs
use Rattle.krl_types.specs.Entry.{Entry}
use Rattle.krl_entries.specs.Changes.{MeansMore}
use Rattle.krl_entries.specs.Revocations.{Revocations, held}
use Rattle.text_entries.specs.Lines.{LineEntries, before_later, beginning, fault_at, lines_from, lines_with, with_entry}
use Rattle.text_entries.specs.Reading.{IsAdded, IsDone, LacksMemory, LacksMemoryAt, ReadsText, ReportsLine, StopsAt, TakesLine}
use Rattle.text_entries.specs.Says.{Saying, entry_said, line_says, standing_after}
use Rattle.text_entries.specs.declared.standing.Standing.{Standing}
use Rattle.text_entries.specs.declared.text_cause.TextCause.{TextCause}
use Rattle.text_entries.specs.declared.text_cause.TextCause.TheVariants as causes

-- entries, followed by those of later lines
abbrev pub with_entries : List Entry → LineEntries → LineEntries
with_entries entries later = record later { entries = entries ++ later.entries }

-- the entry of a line before those of others
one_before : (entry : Option Entry) (front all : LineEntries) (back : Standing → LineEntries)
    → (with_entry entry front).fault ≡ None
    → (front.fault ≡ None → all ≡ with_entries front.entries (back front.standing))
    → with_entry entry all ≡ with_entries (with_entry entry front).entries (back (with_entry entry front).standing)
one_before None front all back none step = step none
one_before (Some entry) front all back none step = rw (step none) refl

later_line : (number : ℕ) (standing : Standing) (says : Result Saying TextCause) (front all : Standing → LineEntries)
    (back : Standing → LineEntries)
    → (before_later number standing says front).fault ≡ None
    → ((after : Standing) → (front after).fault ≡ None → all after ≡ with_entries (front after).entries (back (front after).standing))
    → before_later number standing says all
    ≡ with_entries (before_later number standing says front).entries (back (before_later number standing says front).standing)
later_line number standing (Ok saying) front all back none step =
    let after = standing_after saying standing in
    one_before (entry_said saying) (front after) (all after) back none (step after)
later_line number standing (Err cause) front all back none step = absurd (cc)

-- If the first lines have no fault, the entries are theirs, followed by those of the rest.
pub named_parts : (standing : Standing) (number : ℕ) (front back : List (List ℕ))
    → (lines_from standing number front).fault ≡ None
    → lines_from standing number (front ++ back)
    ≡ with_entries (lines_from standing number front).entries (lines_from (lines_from standing number front).standing (number + length front) back)
named_parts standing number [] back none =
    let same : number + 0 ≡ number = omega arith in
    rw same refl
named_parts standing number (line ∷ front) back none =
    let same : number + 1 + length front ≡ number + length (line ∷ front) = omega arith in
    later_line number standing (line_says standing line) (λ after. lines_from after (number + 1) front) (λ after. lines_from after (number + 1) (front ++ back))
    (λ after. lines_from after (number + length (line ∷ front)) back) none
    (λ after later. named_parts after (number + 1) front back later ∙ ap (λ (n : ℕ). with_entries (lines_from after (number + 1) front).entries (lines_from (lines_from after (number + 1) front).standing n back)) same)

-- The lines before were read: they have no fault, their entries were added, and what they decide stands.
pub record IsAt (first : Standing) (lines : List (List ℕ)) (passed : ℕ) (rest : List (List ℕ)) (standing : Standing) (old new : Revocations) : Type 0 where
  pub before : List (List ℕ)
  pub parts : lines ≡ before ++ rest
  pub counted : length before ≡ passed
  pub faultless : (lines_from (beginning first) 1 before).fault ≡ None
  pub standing_is : (lines_from (beginning first) 1 before).standing ≡ standing
  pub adds : MeansMore old new (lines_from (beginning first) 1 before).entries
  pub few : held new ≤ held old + length (lines_from (beginning first) 1 before).entries

pub none_read : (first : Standing) (lines : List (List ℕ)) (r : Revocations) → IsAt first lines 0 lines (beginning first) r r
none_read first lines r = record {
  before = [];
  parts = refl;
  counted = refl;
  faultless = refl;
  standing_is = refl;
  adds = λ entries means. rw (append-nil entries) means;
  few = omega arith;
}

-- A line has no fault, and its entry, if it has one, was added.
record LineAdds (standing : Standing) (number : ℕ) (line : List ℕ) (after : Standing) (old new : Revocations) : Type 0 where
  named : List Entry
  is : lines_from standing number (line ∷ []) ≡ record { entries = named; fault = None; standing = after }
  adds : MeansMore old new named
  few : held new ≤ held old + length named

-- the next line is read
next_line : (first : Standing) (lines : List (List ℕ)) (passed : ℕ) (line : List ℕ) (rest : List (List ℕ)) (standing after : Standing)
    (old mid new : Revocations) → (at : IsAt first lines passed (line ∷ rest) standing old mid)
    → LineAdds standing (1 + length at.before) line after mid new → IsAt first lines (passed + 1) rest after old new
next_line first lines passed line rest standing after old mid new at now =
    let e = (lines_from (beginning first) 1 at.before).entries in
    let is : lines_from (beginning first) 1 (at.before ++ line ∷ []) ≡ record { entries = e ++ now.named; fault = None; standing = after } =
    named_parts (beginning first) 1 at.before (line ∷ []) at.faultless
    ∙ ap (λ (c : Standing). with_entries e (lines_from c (1 + length at.before) (line ∷ []))) at.standing_is ∙ ap (with_entries e) now.is in
    record {
      before = at.before ++ line ∷ [];
      parts = at.parts ∙ sym (append_assoc at.before (line ∷ []) rest);
      counted = omega (arith, at.counted, length-append at.before (line ∷ []));
      faultless = ap (λ (n : LineEntries). n.fault) is;
      standing_is = ap (λ (n : LineEntries). n.standing) is;
      adds = λ entries means. rw (is, ← append_assoc entries e now.named) (now.adds (entries ++ e) (at.adds entries means));
      few = rw is (omega (arith, at.few, now.few, length-append e now.named));
    }

-- what a line adds, by its entry
entry_adds : (standing after : Standing) (number : ℕ) (line : List ℕ) (mid new : Revocations) (entry : Option Entry)
    → lines_from standing number (line ∷ []) ≡ with_entry entry (record { entries = []; fault = None; standing = after })
    → IsAdded entry mid new → LineAdds standing number line after mid new
entry_adds standing after number line mid new None is same = record {
  named = [];
  is = is;
  adds = λ entries means. rw (append-nil entries, same) means;
  few = let least : held new ≡ held mid = ap held same in omega arith;
}
entry_adds standing after number line mid new (Some entry) is adds = record {
  named = entry ∷ [];
  is = is;
  adds = adds.0;
  few = adds.1;
}

done_adds : (standing after : Standing) (number : ℕ) (line : List ℕ) (mid new : Revocations) (saying : Saying)
    → line_says standing line ≡ Ok saying → IsDone saying standing after mid new → LineAdds standing number line after mid new
done_adds standing after number line mid new saying says (same, adds) =
    entry_adds standing after number line mid new (entry_said saying) (rw (says, same) refl) adds

pub line_read : (first : Standing) (lines : List (List ℕ)) (passed : ℕ) (line : List ℕ) (rest : List (List ℕ)) (standing after : Standing) (old mid new : Revocations)
    → IsAt first lines passed (line ∷ rest) standing old mid
    → TakesLine {A = Unit {0}} (line_says standing line) (Ok tt) standing after mid new → IsAt first lines (passed + 1) rest after old new
line_read first lines passed line rest standing after old mid new at (saying, says, is) =
    next_line first lines passed line rest standing after old mid new at (done_adds standing after (1 + length at.before) line mid new saying says is)

-- All lines were read.
pub all_read : (first : Standing) (text : List ℕ) (passed : ℕ) (standing : Standing) (old new : Revocations)
    → IsAt first (slice_split is_newline text) passed [] standing old new
    → ReadsText {A = Unit {0}} text (Ok tt) first standing old new × (held new ≤ held old + length (lines_with first text).entries)
unfolding lines_with
all_read first text passed standing old new at =
    let whole : slice_split is_newline text ≡ at.before = at.parts ∙ append-nil at.before in
    rw whole ((at.faultless, sym at.standing_is, at.adds), at.few)

-- There are at least as many entries as were added for the lines read so far.
front_is_few : (first : Standing) (lines : List (List ℕ)) (passed : ℕ) (rest : List (List ℕ)) (standing : Standing) (old new : Revocations)
    → IsAt first lines passed rest standing old new → held new ≤ held old + length (lines_from (beginning first) 1 lines).entries
front_is_few first lines passed rest standing old new at =
    let e = (lines_from (beginning first) 1 at.before).entries in
    let later = lines_from (lines_from (beginning first) 1 at.before).standing (1 + length at.before) rest in
    let is : lines_from (beginning first) 1 lines ≡ with_entries e later =
    ap (lines_from (beginning first) 1) at.parts ∙ named_parts (beginning first) 1 at.before rest at.faultless in
    rw is (omega (arith, at.few, length-append e later.entries))

-- The fault of a line is the first one.
reported : (first : Standing) (text : List ℕ) (passed : ℕ) (line : List ℕ) (rest : List (List ℕ)) (standing : Standing) (old new : Revocations) (cause : TextCause)
    → IsAt first (slice_split is_newline text) passed (line ∷ rest) standing old new → line_says standing line ≡ Err cause
    → ((lines_with first text).fault ≡ Some (fault_at (passed + 1) cause)) × MeansMore old new (lines_with first text).entries
unfolding lines_with
reported first text passed line rest standing old new cause at is =
    let e = (lines_from (beginning first) 1 at.before).entries in
    let number : 1 + length at.before ≡ passed + 1 = omega (arith, at.counted) in
    let stop : LineEntries = record { entries = []; fault = Some (fault_at (passed + 1) cause); standing = standing } in
    let here : lines_from standing (1 + length at.before) (line ∷ rest) ≡ stop = rw (is, number) refl in
    let whole : lines_from (beginning first) 1 (slice_split is_newline text) ≡ with_entries e stop =
    ap (lines_from (beginning first) 1) at.parts ∙ named_parts (beginning first) 1 at.before (line ∷ rest) at.faultless
    ∙ ap (λ (c : Standing). with_entries e (lines_from c (1 + length at.before) (line ∷ rest))) at.standing_is ∙ ap (with_entries e) here in
    (ap (λ (n : LineEntries). n.fault) whole, λ entries means. rw (whole, append-nil e) (at.adds entries means))

lacking : (first : Standing) (lines : List (List ℕ)) (passed : ℕ) (line : List ℕ) (rest : List (List ℕ)) (standing : Standing) (old new : Revocations)
    → IsAt first lines passed (line ∷ rest) standing old new → LacksMemory (line_says standing line) → LacksMemoryAt first lines (passed + 1) old new
lacking first lines passed line rest standing old new at lacks = record {
  before = at.before;
  line = line;
  after = rest;
  parts = at.parts;
  counted = omega (arith, at.counted);
  faultless = at.faultless;
  lacks = rw at.standing_is lacks;
  adds = at.adds;
}

stops : (first : Standing) (text : List ℕ) (passed : ℕ) (line : List ℕ) (rest : List (List ℕ)) (standing : Standing) (old new : Revocations)
    (cause : TextCause) → IsAt first (slice_split is_newline text) passed (line ∷ rest) standing old new
    → ReportsLine cause (line_says standing line) → StopsAt first text (passed + 1) cause old new
stops first text passed line rest standing old new (causes.Spec specs.NoMemory) at reports = lacking first _ passed line rest standing old new at reports
stops first text passed line rest standing old new cause at reports = reported first text passed line rest standing old new cause at reports

-- Reading stops at a line, with its fault or because an allocation failed.
pub line_stops : (first : Standing) (text : List ℕ) (passed : ℕ) (line : List ℕ) (rest : List (List ℕ)) (standing after : Standing) (old mid new : Revocations) (cause : TextCause)
    → IsAt first (slice_split is_newline text) passed (line ∷ rest) standing old mid
    → TakesLine {A = Unit {0}} (line_says standing line) (Err cause) standing after mid new
    → StopsAt first text (passed + 1) cause old new × (held new ≤ held old + length (lines_with first text).entries)
unfolding lines_with
line_stops first text passed line rest standing after old mid new cause at (reports, _, same) =
    rw same (stops first text passed line rest standing old mid cause at reports, front_is_few first _ passed (line ∷ rest) standing old mid at)
