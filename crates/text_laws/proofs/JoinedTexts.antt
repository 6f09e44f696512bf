-- The lines of a text and then another.
use Rattle.std.proofs.Common.{◌≡◌, ◌≢◌, ℕ, ◌+◌, ◌<◌, ◌==◌, List, [], ◌∷◌, ◌++◌, length, Option, Some, None, Result, Ok, Err, refl, sym, ap, subst, ◌∙◌, cond, arith, append_assoc, inl, inr}
use Rattle.std.specs.List.{onto_first, slice_split}
use Rattle.std.proofs.lemmas.Bool.{cases_Bool}
use Rattle.std.proofs.lemmas.List.Splits.{length-slice_split}
use Rattle.std.proofs.lemmas.List.Sums.{sum_by_push}
use Rattle.key_text.specs.Lines.{is_newline}
use Rattle.krl_types.specs.Entry.{Entry}
use Rattle.krl_spec.specs.Blanks.{after_endings, bare_line}
use Rattle.key_text.specs.Blanks.{before_ending}
use Rattle.text_entries.specs.AuthorityNames.{with_name}
use Rattle.text_entries.specs.Lines.{LineEntries, before_later, beginning, fault_at, lines_from, lines_with, with_entry}
use Rattle.text_entries.specs.Day.{says_until, until_in}
use Rattle.text_entries.specs.Mark.{mark_in}
use Rattle.text_entries.specs.Says.{Blank, Current, Declares, Names, Over, Saying, Under, content_says, entry_said, line_says, one_more_over, standing_after}
use Rattle.text_entries.specs.Word.{order_in}
use Rattle.text_entries.specs.declared.standing.Standing.{Standing}
use Rattle.text_entries.specs.declared.text_cause.TextCause.{TextCause}
use Rattle.text_entries.specs.declared.text_fault.TextFault.{TextFault}
use Rattle.text_entries.proofs.ReadLines.{named_parts, with_entries}
use Rattle.text_laws.specs.Joined.{AreWholeLines, LacksNoAuthority, later_by, lines_in}
use Rattle.text_laws.proofs.FreeLines.{no_authority, says_free, under}

abbrev Later : Type 0
Later = Standing → LineEntries

-- ---- a line before others

later_same : (number : ℕ) (standing : Standing) (says : Result Saying TextCause) (one other : Later)
    → ((after : Standing) → one after ≡ other after)
    → before_later number standing says one ≡ before_later number standing says other
later_same number standing (Ok saying) one other same = ap (with_entry (entry_said saying)) (same (standing_after saying standing))
later_same number standing (Err cause) one other same = refl

-- an empty line says nothing
pub blank_says : (standing : Standing) → line_says standing [] ≡ Ok Blank
unfolding line_says content_says until_in says_until bare_line after_endings before_ending order_in mark_in
blank_says standing = refl

pub blank_last : (standing : Standing) (number : ℕ) (lines : List (List ℕ))
    → lines_from standing number (lines ++ [] ∷ []) ≡ lines_from standing number lines
blank_last standing number [] = rw (blank_says standing) refl
blank_last standing number (line ∷ lines) =
    later_same number standing (line_says standing line) (λ after. lines_from after (number + 1) (lines ++ [] ∷ [])) (λ after. lines_from after (number + 1) lines)
    (λ after. blank_last after (number + 1) lines)

-- ---- a fault

entry_stops : (entry : Option Entry) (front all : LineEntries) (fault : TextFault) → (with_entry entry front).fault ≡ Some fault
    → (front.fault ≡ Some fault → all ≡ front) → with_entry entry all ≡ with_entry entry front
entry_stops None front all fault is step = step is
entry_stops (Some entry) front all fault is step = rw (step is) refl

later_stops : (number : ℕ) (standing : Standing) (says : Result Saying TextCause) (front all : Later) (fault : TextFault)
    → (before_later number standing says front).fault ≡ Some fault
    → ((after : Standing) → (front after).fault ≡ Some fault → all after ≡ front after)
    → before_later number standing says all ≡ before_later number standing says front
later_stops number standing (Ok saying) front all fault is step =
    let after = standing_after saying standing in
    entry_stops (entry_said saying) (front after) (all after) fault is (step after)
later_stops number standing (Err cause) front all fault is step = refl

-- If the first lines have a fault, no later line is read.
pub stopped : (standing : Standing) (number : ℕ) (front back : List (List ℕ)) (fault : TextFault)
    → (lines_from standing number front).fault ≡ Some fault
    → lines_from standing number (front ++ back) ≡ lines_from standing number front
stopped standing number [] back fault is = absurd cc
stopped standing number (line ∷ front) back fault is =
    later_stops number standing (line_says standing line) (λ after. lines_from after (number + 1) front) (λ after. lines_from after (number + 1) (front ++ back)) fault is
    (λ after later. stopped after (number + 1) front back fault later)

-- ---- the numbers of lines

abbrev moved : ℕ → LineEntries → LineEntries
moved count later = record later { fault = later_by count later.fault }

entry_moved : (count : ℕ) (entry : Option Entry) (one other : LineEntries) → one ≡ moved count other
    → with_entry entry one ≡ moved count (with_entry entry other)
entry_moved count None one other same = same
entry_moved count (Some entry) one other same = rw same refl

later_moved : (count number : ℕ) (standing : Standing) (says : Result Saying TextCause) (one other : Later)
    → ((after : Standing) → one after ≡ moved count (other after))
    → before_later (count + number) standing says one ≡ moved count (before_later number standing says other)
later_moved count number standing (Ok saying) one other same =
    let after = standing_after saying standing in
    entry_moved count (entry_said saying) (one after) (other after) (same after)
later_moved count number standing (Err cause) one other same = refl

lines_moved : (count number : ℕ) (standing : Standing) (lines : List (List ℕ))
    → lines_from standing (count + number) lines ≡ moved count (lines_from standing number lines)
lines_moved count number standing [] = refl
lines_moved count number standing (line ∷ lines) =
    later_moved count number standing (line_says standing line) (λ after. lines_from after (count + number + 1) lines) (λ after. lines_from after (number + 1) lines)
    (λ after. let next : count + number + 1 ≡ count + (number + 1) = omega arith in rw next (lines_moved count (number + 1) after lines))

-- ---- lines under any authority

-- no line lacks an authority
abbrev LacksNone : LineEntries → Type 0
LacksNone lines = (number : ℕ) → lines.fault ≢ Some (fault_at number no_authority)

-- the same entries and the same fault
abbrev SaysSame : LineEntries → LineEntries → Type 0
SaysSame one other = (one.entries ≡ other.entries) × (one.fault ≡ other.fault)

-- What stands after a line is the same whatever authority was current, or differs only by that one.
data Follows (saying : Saying) (standing : Standing) (current : Option (List ℕ)) : Type 0 where
  alike : standing_after saying (under standing current) ≡ standing_after saying (beginning standing) → Follows saying standing current
  apart : (known : Standing) → standing_after saying (under standing current) ≡ under known current
      → standing_after saying (beginning standing) ≡ beginning known → Follows saying standing current

follows : (saying : Saying) (standing : Standing) (current : Option (List ℕ)) → Follows saying standing current
follows Blank standing current = apart standing refl refl
follows (Current authority) standing current = alike refl
follows (Declares name key) standing current = apart (record standing { names = with_name standing.names name key }) refl refl
follows (Under entry) standing current = apart standing refl refl
follows (Names entry) standing current = alike refl
follows (Over saying) standing current = go (follows saying standing current)
  where
    go : Follows saying standing current → Follows (Over saying) standing current
    go (alike same) = alike (ap one_more_over same)
    go (apart known one other) = apart (one_more_over known) (ap one_more_over one) (ap one_more_over other)

entry_free : (entry : Option Entry) (one other : LineEntries) → LacksNone (with_entry entry other) → (LacksNone other → SaysSame one other)
    → SaysSame (with_entry entry one) (with_entry entry other)
entry_free None one other lacks step = step lacks
entry_free (Some entry) one other lacks step = let same = step lacks in (ap (λ (entries : List Entry). entry ∷ entries) same.0, same.1)

later_free : (number : ℕ) (standing : Standing) (current : Option (List ℕ)) (says : Result Saying TextCause) (later : Later)
    → LacksNone (before_later number (beginning standing) says later)
    → ((known : Standing) → LacksNone (later (beginning known)) → SaysSame (later (under known current)) (later (beginning known)))
    → SaysSame (before_later number (under standing current) says later) (before_later number (beginning standing) says later)
later_free number standing current (Err cause) later lacks step = (refl, refl)
later_free number standing current (Ok saying) later lacks step = go (follows saying standing current)
  where
    go : Follows saying standing current → SaysSame (with_entry (entry_said saying) (later (standing_after saying (under standing current)))) (with_entry (entry_said saying) (later (standing_after saying (beginning standing))))
    go (alike same) = rw same (refl, refl)
    go (apart known left right) =
        rw left (entry_free (entry_said saying) (later (under known current)) (later (standing_after saying (beginning standing))) lacks
        (λ none. rw right (step known (rw right at none))))

step_free : (number : ℕ) (standing : Standing) (current : Option (List ℕ)) (line : List ℕ) (later : Later) (says : Result Saying TextCause)
    → line_says (beginning standing) line ≡ says
    → LacksNone (before_later number (beginning standing) says later) → line_says (under standing current) line ≡ line_says (beginning standing) line
step_free number standing current line later (Err cause) is lacks =
    says_free standing standing.over current line (λ none. let same : cause ≡ no_authority = cc in lacks number (ap (λ (c : TextCause). Some (fault_at number c)) same))
step_free number standing current line later (Ok saying) is lacks = says_free standing standing.over current line (λ none. absurd cc)

-- Lines of which none lacks an authority say the same under any.
lines_free : (standing : Standing) (current : Option (List ℕ)) (number : ℕ) (lines : List (List ℕ))
    → LacksNone (lines_from (beginning standing) number lines)
    → SaysSame (lines_from (under standing current) number lines) (lines_from (beginning standing) number lines)
lines_free standing current number [] lacks = (refl, refl)
lines_free standing current number (line ∷ lines) lacks =
    let later = λ (after : Standing). lines_from after (number + 1) lines in
    let same = step_free number standing current line later (line_says (beginning standing) line) refl lacks in
    rw same (later_free number standing current (line_says (beginning standing) line) later lacks (λ known. lines_free known current (number + 1) lines))

-- ---- the lines of two texts

onto_joined : (byte : ℕ) (parts others : List (List ℕ)) → 0 < length parts
    → onto_first byte (parts ++ others) ≡ onto_first byte parts ++ others
onto_joined byte [] others some = absurd (omega arith)
onto_joined byte (part ∷ parts) others some = refl

split_joined : (front back : List ℕ)
    → slice_split is_newline (front ++ 10 ∷ back) ≡ slice_split is_newline front ++ slice_split is_newline back
split_joined [] back = refl
split_joined (byte ∷ front) back = elim (cases_Bool (byte == 10)) [
  | inl feed ↦ rw (feed, split_joined front back) refl
  | inr other ↦ rw (other, split_joined front back) (onto_joined byte (slice_split is_newline front) (slice_split is_newline back) (omega (arith, length-slice_split is_newline front)))
]

module _ (standing : Standing) (front back : List ℕ) where
  abbrev text : List ℕ
  text = front ++ 10 ∷ []

  abbrev first : List (List ℕ)
  first = slice_split is_newline front

  abbrev second : List (List ℕ)
  second = slice_split is_newline back

  first_lines : lines_with standing text ≡ lines_from (beginning standing) 1 first
  unfolding lines_with
  first_lines = ap (lines_from (beginning standing) 1) (split_joined front []) ∙ blank_last (beginning standing) 1 first

  both_lines : lines_with standing (text ++ back) ≡ lines_from (beginning standing) 1 (first ++ second)
  unfolding lines_with
  both_lines =
      ap (λ (t : List ℕ). lines_from (beginning standing) 1 (slice_split is_newline t)) (append_assoc front (10 ∷ []) back)
      ∙ ap (lines_from (beginning standing) 1) (split_joined front back)

  counted : length first ≡ lines_in text
  counted = omega (arith, length-slice_split is_newline front, sum_by_push (λ (byte : ℕ). cond (is_newline byte) 1 0) front 10)

  after_front : (lines_with standing text).fault ≡ None
      → lines_with standing (text ++ back)
      ≡ with_entries (lines_with standing text).entries (moved (lines_in text) (lines_from (lines_with standing text).standing 1 second))
  after_front none =
      let before : LineEntries = lines_from (beginning standing) 1 first in
      let faultless : before.fault ≡ None = ap (λ (lines : LineEntries). lines.fault) (sym first_lines) ∙ none in
      let number : 1 + length first ≡ lines_in text + 1 = omega (arith, counted) in
      both_lines ∙ named_parts (beginning standing) 1 first second faultless
      ∙ ap (λ (n : ℕ). with_entries before.entries (lines_from before.standing n second)) number
      ∙ ap (with_entries before.entries) (lines_moved (lines_in text) 1 before.standing second)
      ∙ ap (λ (lines : LineEntries). with_entries lines.entries (moved (lines_in text) (lines_from lines.standing 1 second))) (sym first_lines)

  back_free : LacksNoAuthority (lines_with standing text).standing back
      → SaysSame (lines_from (lines_with standing text).standing 1 second) (lines_with (lines_with standing text).standing back)
  unfolding lines_with
  back_free lacks = lines_free (lines_with standing text).standing (lines_with standing text).standing.current 1 second lacks

-- ---- the law

-- The entries of a text and then another are those of both, and so is the fault of the second, which knows the standing of the first.
pub record Joins (standing : Standing) (front back : List ℕ) : Type 0 where
  pub entries : (lines_with standing (front ++ back)).entries ≡ (lines_with standing front).entries ++ (lines_with (lines_with standing front).standing back).entries
  pub fault : (lines_with standing (front ++ back)).fault ≡ later_by (lines_in front) (lines_with (lines_with standing front).standing back).fault

line_joined : (standing : Standing) (front back : List ℕ) → (lines_with standing (text standing front back)).fault ≡ None
    → LacksNoAuthority (lines_with standing (text standing front back)).standing back
    → Joins standing (text standing front back) back
line_joined standing front back none lacks =
    let same = back_free standing front back lacks in
    let is = after_front standing front back none in
    record {
      entries = ap (λ (lines : LineEntries). lines.entries) is ∙ ap (λ (entries : List Entry). (lines_with standing (text standing front back)).entries ++ entries) same.0;
      fault = ap (λ (lines : LineEntries). lines.fault) is ∙ ap (later_by (lines_in (text standing front back))) same.1;
    }

by_none : (fault : Option TextFault) → later_by 0 fault ≡ fault
by_none None = refl
by_none (Some fault) = let same : 0 + fault.line ≡ fault.line = omega arith in rw same refl

nothing_said : (standing : Standing) → lines_with standing [] ≡ record { entries = []; fault = None; standing = beginning standing }
unfolding lines_with
nothing_said standing = blank_last (beginning standing) 1 []

none_joined : (standing : Standing) (back : List ℕ) → Joins standing [] back
unfolding lines_with
none_joined standing back = record {
  entries = rw (nothing_said standing) refl;
  fault = rw (nothing_said standing) (sym (by_none (lines_with standing back).fault));
}

pub joined : (standing : Standing) (front back : List ℕ) → AreWholeLines front → (lines_with standing front).fault ≡ None
    → LacksNoAuthority (lines_with standing front).standing back
    → Joins standing front back
joined standing front back (inl empty) none lacks = subst (λ (t : List ℕ). Joins standing t back) (sym empty) (none_joined standing back)
joined standing front back (inr (lines, is)) none lacks =
    subst (λ (t : List ℕ). (lines_with standing t).fault ≡ None → LacksNoAuthority (lines_with standing t).standing back → Joins standing t back) (sym is)
    (λ faultless free. line_joined standing lines back faultless free) none lacks

line_stops : (standing : Standing) (front back : List ℕ) (fault : TextFault) → (lines_with standing (text standing front back)).fault ≡ Some fault
    → lines_with standing (text standing front back ++ back) ≡ lines_with standing (text standing front back)
line_stops standing front back fault is =
    let before = first_lines standing front back in
    both_lines standing front back
    ∙ stopped (beginning standing) 1 (first standing front back) (second standing front back) fault (ap (λ (lines : LineEntries). lines.fault) (sym before) ∙ is) ∙ sym before

-- Nothing is read after a fault.
pub stops_first : (standing : Standing) (front back : List ℕ) (fault : TextFault) → AreWholeLines front
    → (lines_with standing front).fault ≡ Some fault → lines_with standing (front ++ back) ≡ lines_with standing front
stops_first standing front back fault (inl empty) is =
    let none : (lines_with standing front).fault ≡ None =
    ap (λ (t : List ℕ). (lines_with standing t).fault) empty ∙ ap (λ (lines : LineEntries). lines.fault) (nothing_said standing) in
    absurd cc
stops_first standing front back fault (inr (lines, whole)) is =
    subst (λ (t : List ℕ). (lines_with standing t).fault ≡ Some fault → lines_with standing (t ++ back) ≡ lines_with standing t) (sym whole)
    (λ faulty. line_stops standing lines back fault faulty) is
