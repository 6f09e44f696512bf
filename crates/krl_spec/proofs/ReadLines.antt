-- Lines of a specification file, read one after another.
use Rattle.std.proofs.Common.{◌≡◌, ℕ, ◌+◌, ◌≤◌, List, [], ◌∷◌, ◌++◌, length, Option, Some, None, Result, Ok, Err, refl, sym, ap, ◌∙◌, arith, append_assoc}
use Rattle.std.proofs.lemmas.List.{length-append, append-nil}
use Rattle.std.specs.List.{slice_split}
use Rattle.krl_entries.specs.Revocations.{Revocations, held}
use Rattle.krl_types.specs.Entry.{Entry}
use Rattle.krl_entries.specs.Changes.{MeansMore}
use Rattle.krl_spec.specs.Adding.{AddsLine, Reports}
use Rattle.krl_spec.specs.Entries.{line_entry}
use Rattle.krl_spec.specs.Lines.{LineEntries, ReadsSpec, LacksMemoryAt, StopsAt, before_later, lines_from, lines_of}
use Rattle.key_text.specs.Lines.{is_newline}
use Rattle.run_faults.specs.declared.spec_cause.SpecCause.{SpecCause}
use Rattle.run_faults.specs.declared.spec_cause.SpecCause.TheVariants as causes

-- entries, followed by those of later lines
abbrev pub with_entries : List Entry → LineEntries → LineEntries
with_entries entries later =
    record { entries = entries ++ later.entries; fault = later.fault }

later_line : (number : ℕ) (read : Option (Result Entry SpecCause)) (front all back : LineEntries)
    → (before_later number read front).fault ≡ None
    → (front.fault ≡ None → all ≡ with_entries front.entries back)
    → before_later number read all ≡ with_entries (before_later number read front).entries back
later_line number None front all back none step = step none
later_line number (Some (Ok entry)) front all back none step = rw (step none) refl
later_line number (Some (Err cause)) front all back none step = absurd (cc)

-- If the first lines have no fault, the entries are theirs, followed by those of the rest.
pub named_parts : (authority : Option (List ℕ)) (number : ℕ) (front back : List (List ℕ))
    → (lines_from authority number front).fault ≡ None
    → lines_from authority number (front ++ back)
    ≡ with_entries (lines_from authority number front).entries (lines_from authority (number + length front) back)
named_parts authority number [] back none =
    let same : number + 0 ≡ number = omega arith in
    rw same refl
named_parts authority number (line ∷ front) back none =
    let same : number + 1 + length front ≡ number + length (line ∷ front) = omega arith in
    later_line number (line_entry authority line) _ _ _ none
    (λ later. named_parts authority (number + 1) front back later ∙ ap (λ (n : ℕ). with_entries (lines_from authority (number + 1) front).entries (lines_from authority n back)) same)

-- The lines before were read: they have no fault, and their entries were added.
pub record IsAt (authority : Option (List ℕ)) (lines : List (List ℕ)) (passed : ℕ) (rest : List (List ℕ)) (old new : Revocations) : Type 0 where
  pub before : List (List ℕ)
  pub parts : lines ≡ before ++ rest
  pub counted : length before ≡ passed
  pub faultless : (lines_from authority 1 before).fault ≡ None
  pub adds : MeansMore old new (lines_from authority 1 before).entries
  pub few : held new ≤ held old + length (lines_from authority 1 before).entries

pub none_read : (authority : Option (List ℕ)) (lines : List (List ℕ)) (r : Revocations) → IsAt authority lines 0 lines r r
none_read authority lines r = record {
  before = [];
  parts = refl;
  counted = refl;
  faultless = refl;
  adds = λ entries means. rw (append-nil entries) means;
  few = omega arith;
}

-- A line has no fault, and its entry, if it has one, was added.
record LineAdds (authority : Option (List ℕ)) (number : ℕ) (line : List ℕ) (old new : Revocations) : Type 0 where
  named : List Entry
  is : lines_from authority number (line ∷ []) ≡ record { entries = named; fault = None }
  adds : MeansMore old new named
  few : held new ≤ held old + length named

-- the next line is read
next_line : (authority : Option (List ℕ)) (lines : List (List ℕ)) (passed : ℕ) (line : List ℕ) (rest : List (List ℕ))
    (old mid new : Revocations) → (at : IsAt authority lines passed (line ∷ rest) old mid)
    → LineAdds authority (1 + length at.before) line mid new → IsAt authority lines (passed + 1) rest old new
next_line authority lines passed line rest old mid new at now =
    let e = (lines_from authority 1 at.before).entries in
    let is : lines_from authority 1 (at.before ++ line ∷ []) ≡ record { entries = e ++ now.named; fault = None } =
    named_parts authority 1 at.before (line ∷ []) at.faultless ∙ ap (with_entries e) now.is in
    record {
      before = at.before ++ line ∷ [];
      parts = at.parts ∙ sym (append_assoc at.before (line ∷ []) rest);
      counted = omega (arith, at.counted, length-append at.before (line ∷ []));
      faultless = ap (λ (n : LineEntries). n.fault) is;
      adds = λ entries means. rw (is, ← append_assoc entries e now.named) (now.adds (entries ++ e) (at.adds entries means));
      few = rw is (omega (arith, at.few, now.few, length-append e now.named));
    }

pub line_read : (authority : Option (List ℕ)) (lines : List (List ℕ)) (passed : ℕ) (line : List ℕ) (rest : List (List ℕ)) (old mid new : Revocations)
    (read : Option (Result Entry SpecCause)) → line_entry authority line ≡ read → IsAt authority lines passed (line ∷ rest) old mid
    → AddsLine read (Ok (tt {0})) mid new → IsAt authority lines (passed + 1) rest old new
line_read authority lines passed line rest old mid new None is at same =
    next_line authority lines passed line rest old mid new at (record {
      named = [];
      is = rw is refl;
      adds = λ entries means. rw (append-nil entries, same) means;
      few = let least : held new ≡ held mid = ap held same in omega arith;
    })
line_read authority lines passed line rest old mid new (Some (Ok entry)) is at (other, same, adds, few) =
    let one : entry ≡ other = cc in
    next_line authority lines passed line rest old mid new at (record { named = other ∷ []; is = rw (is, one) refl; adds = adds; few = few })
line_read authority lines passed line rest old mid new (Some (Err cause)) is at (other, same, adds, few) = absurd (cc)

-- All lines were read.
pub all_read : (authority : Option (List ℕ)) (text : List ℕ) (passed : ℕ) (old new : Revocations)
    → IsAt authority (slice_split is_newline text) passed [] old new
    → ReadsSpec authority text (Ok (tt {0})) old new × (held new ≤ held old + length (lines_of authority text).entries)
unfolding lines_of
all_read authority text passed old new at =
    let whole : slice_split is_newline text ≡ at.before = at.parts ∙ append-nil at.before in
    rw whole ((at.faultless, at.adds), at.few)

-- There are at least as many entries as were added for the lines read so far.
front_is_few : (authority : Option (List ℕ)) (lines : List (List ℕ)) (passed : ℕ) (rest : List (List ℕ)) (old new : Revocations)
    → IsAt authority lines passed rest old new → held new ≤ held old + length (lines_from authority 1 lines).entries
front_is_few authority lines passed rest old new at =
    let e = (lines_from authority 1 at.before).entries in
    let later = lines_from authority (1 + length at.before) rest in
    let is : lines_from authority 1 lines ≡ with_entries e later = ap (lines_from authority 1) at.parts ∙ named_parts authority 1 at.before rest at.faultless in
    rw is (omega (arith, at.few, length-append e later.entries))

-- The fault of a line is the first one.
reported : (authority : Option (List ℕ)) (text : List ℕ) (passed : ℕ) (line : List ℕ) (rest : List (List ℕ)) (old new : Revocations) (cause : SpecCause)
    → IsAt authority (slice_split is_newline text) passed (line ∷ rest) old new → line_entry authority line ≡ Some (Err cause)
    → ((lines_of authority text).fault ≡ Some (record { line = passed + 1; cause = cause })) × MeansMore old new (lines_of authority text).entries
unfolding lines_of
reported authority text passed line rest old new cause at is =
    let e = (lines_from authority 1 at.before).entries in
    let number : 1 + length at.before ≡ passed + 1 = omega (arith, at.counted) in
    let stop : LineEntries = record { entries = []; fault = Some (record { line = passed + 1; cause = cause }) } in
    let here : lines_from authority (1 + length at.before) (line ∷ rest) ≡ stop = rw (is, number) refl in
    let whole : lines_from authority 1 (slice_split is_newline text) ≡ with_entries e stop =
    ap (lines_from authority 1) at.parts ∙ named_parts authority 1 at.before (line ∷ rest) at.faultless ∙ ap (with_entries e) here in
    (ap (λ (n : LineEntries). n.fault) whole, λ entries means. rw (whole, append-nil e) (at.adds entries means))

lacking : (authority : Option (List ℕ)) (lines : List (List ℕ)) (passed : ℕ) (line : List ℕ) (rest : List (List ℕ)) (old new : Revocations)
    → IsAt authority lines passed (line ∷ rest) old new → LacksMemoryAt authority lines (passed + 1) old new
lacking authority lines passed line rest old new at = record {
  before = at.before;
  line = line;
  after = rest;
  parts = at.parts;
  counted = omega (arith, at.counted);
  faultless = at.faultless;
  adds = at.adds;
}

stops : (authority : Option (List ℕ)) (text : List ℕ) (passed : ℕ) (line : List ℕ) (rest : List (List ℕ)) (old new : Revocations)
    (read : Result Entry SpecCause) (cause : SpecCause) → IsAt authority (slice_split is_newline text) passed (line ∷ rest) old new
    → line_entry authority line ≡ Some read → Reports cause read → StopsAt authority text (passed + 1) cause old new
stops authority text passed line rest old new read causes.NoMemory at is reports = lacking authority _ passed line rest old new at
stops authority text passed line rest old new read cause at is reports = reported authority text passed line rest old new cause at (is ∙ ap Some reports)

-- Reading stops at a line, with its fault or because an allocation failed.
pub line_stops : (authority : Option (List ℕ)) (text : List ℕ) (passed : ℕ) (line : List ℕ) (rest : List (List ℕ)) (old mid new : Revocations) (cause : SpecCause)
    (read : Option (Result Entry SpecCause)) → line_entry authority line ≡ read → IsAt authority (slice_split is_newline text) passed (line ∷ rest) old mid
    → AddsLine {A = Unit {0}} read (Err cause) mid new
    → StopsAt authority text (passed + 1) cause old new × (held new ≤ held old + length (lines_of authority text).entries)
unfolding lines_of
line_stops authority text passed line rest old mid new cause None is at adds = absurd adds
line_stops authority text passed line rest old mid new cause (Some read) is at (reports, same) =
    rw same (stops authority text passed line rest old mid read cause at is reports, front_is_few authority _ passed (line ∷ rest) old mid at)
