-- The meaning of a text on two days.
use Rattle.std.proofs.Common.{◌≡◌, ◌≤◌, ◌<◌, ℕ, ℤ, pos, negsuc, ◌+◌, ◌-◌, ◌^◌, min, Bool, true, false, List, [], ◌∷◌, Option, Some, None, Result, Ok, Err, refl, sym, ap, ◌∙◌, arith, inl, inr}
use Rattle.std.specs.List.{slice_split}
use Rattle.std.proofs.lemmas.Bool.{cases_Bool, lt-ltb, ltb-true}
use Rattle.key_text.specs.Lines.{is_newline}
use Rattle.krl_types.specs.Entry.{Entry}
use Rattle.krl_spec.specs.Blanks.{bare_line}
use Rattle.text_entries.specs.Day.{dated_content, is_over, last_day, until_in}
use Rattle.text_entries.specs.Lines.{LineEntries, before_later, beginning, lines_from, lines_with, with_entry}
use Rattle.text_entries.specs.Named.{can_end, named_in}
use Rattle.text_entries.specs.Says.{Blank, Current, Declares, Names, Over, Saying, Under, content_says, ending_says, endless_says, entry_said, is_misplaced, line_says, one_more_over, standing_after, unless_over, until_says}
use Rattle.text_entries.specs.declared.standing.Standing.{Standing}
use Rattle.text_entries.specs.declared.text_cause.TextCause.{TextCause}
use Rattle.text_laws.specs.Days.{MayEnd, StandsSame, on_day}
use Rattle.text_laws.proofs.FreeLines.{content_placed, placed}

-- ---- what a line says

-- what a line would say if no last day were over
abbrev endless : Saying → Saying
endless (Over saying) = endless saying
endless saying = saying

-- Both say the same but for what is over, or have the same fault.
abbrev IsAlike : (one other : Result Saying TextCause) → Type 0
IsAlike (Ok one) other = (saying : Saying) × (other ≡ Ok saying) × (endless one ≡ endless saying)
IsAlike (Err cause) other = other ≡ Err cause

same_alike : (says : Result Saying TextCause) → IsAlike says says
same_alike (Ok saying) = (saying, refl, refl)
same_alike (Err cause) = refl

over_alike : (one other : Bool) (says : Result Saying TextCause) → IsAlike (unless_over one says) (unless_over other says)
over_alike true true (Ok saying) = (Over saying, refl, refl)
over_alike true false (Ok saying) = (saying, refl, refl)
over_alike false true (Ok saying) = (Over saying, refl, refl)
over_alike false false (Ok saying) = (saying, refl, refl)
over_alike one other (Err cause) = refl

module _ (standing : Standing) (today over : ℕ) (line : List ℕ) where
  abbrev there : Standing
  there = placed standing today over standing.current

  content_there : (content : List ℕ) → content_says there line content ≡ content_says standing line content
  content_there content = content_placed standing today over line content

  ending_alike : (content : List ℕ) (day : Option ℤ) → IsAlike (ending_says there line content day) (ending_says standing line content day)
  ending_alike content None = refl
  ending_alike content (Some day) = elim (cases_Bool (can_end (named_in content))) [
    | inl ends ↦ rw (ends, content_there content) (over_alike (is_over today day) (is_over standing.today day) (content_says standing line content))
    | inr never ↦ rw never refl
  ]

  endless_there : (content : List ℕ) → endless_says there line content ≡ endless_says standing line content
  endless_there content = elim (cases_Bool (is_misplaced line content)) [
    | inl misplaced ↦ rw misplaced refl
    | inr other ↦ rw (other, content_there content) refl
  ]

  until_alike : (content : List ℕ) (behind : Option (List ℕ)) → IsAlike (until_says there line content behind) (until_says standing line content behind)
  until_alike content None = rw (endless_there content) (same_alike (endless_says standing line content))
  until_alike content (Some behind) = ending_alike (dated_content behind) (last_day behind)

  line_alike : IsAlike (line_says there line) (line_says standing line)
  unfolding line_says
  line_alike = until_alike (bare_line line) (until_in (bare_line line))

-- A line without a last day says the same on each day.
pub says_same : (standing : Standing) (today : ℕ) (line : List ℕ) → until_in (bare_line line) ≡ None
    → line_says (on_day today standing) line ≡ line_says standing line
unfolding line_says
says_same standing today line none = rw none (endless_there standing today standing.over line (bare_line line))

-- ---- the days after

later_over : (earlier later : ℕ) (day : ℤ) → earlier ≤ later → is_over earlier day ≡ true → is_over later day ≡ true
later_over earlier later (negsuc n) le over = refl
later_over earlier later (pos n) le over =
    let before : n < earlier = ltb-true n earlier over in
    lt-ltb n later (omega (arith, le, before))

ends_later : (earlier later : Bool) (says : Result Saying TextCause) → (earlier ≡ true → later ≡ true) → MayEnd (unless_over earlier says) (unless_over later says)
ends_later true true (Ok saying) onward = inl refl
ends_later true false (Ok saying) onward = absurd (cc (onward refl))
ends_later false true (Ok saying) onward = inr refl
ends_later false false (Ok saying) onward = inl refl
ends_later earlier later (Err cause) onward = refl

may_stay : (says : Result Saying TextCause) → MayEnd says says
may_stay (Ok saying) = inl refl
may_stay (Err cause) = refl

ending_may : (standing : Standing) (today : ℕ) (line content : List ℕ) (day : Option ℤ) → standing.today ≤ today
    → MayEnd (ending_says standing line content day) (ending_says (on_day today standing) line content day)
ending_may standing today line content None le = refl
ending_may standing today line content (Some day) le = elim (cases_Bool (can_end (named_in content))) [
  | inl ends ↦
      rw (ends, content_there standing today standing.over line content)
      (ends_later (is_over standing.today day) (is_over today day) (content_says standing line content) (later_over standing.today today day le))
  | inr never ↦ rw never refl
]

pub may_end : (standing : Standing) (today : ℕ) (line : List ℕ) → standing.today ≤ today
    → MayEnd (line_says standing line) (line_says (on_day today standing) line)
unfolding line_says
may_end standing today line le = go (until_in (bare_line line))
  where
    go : (behind : Option (List ℕ)) → MayEnd (until_says standing line (bare_line line) behind) (until_says (on_day today standing) line (bare_line line) behind)
    go None = rw (endless_there standing today standing.over line (bare_line line)) (may_stay (endless_says standing line (bare_line line)))
    go (Some behind) = ending_may standing today line (dated_content behind) (last_day behind) le

-- ---- what stands

-- what stands after a line, but for how many lines are over
after_endless : (saying : Saying) (standing : Standing) → (over : ℕ) × (standing_after saying standing ≡ record (standing_after (endless saying) standing) { over = over })
after_endless (Over saying) standing =
    let it = after_endless saying standing in (min (it.0 + 1) (2 ^ 64 - 1), ap one_more_over it.1)
after_endless Blank standing = (standing.over, refl)
after_endless (Current authority) standing = (standing.over, refl)
after_endless (Declares name key) standing = (standing.over, refl)
after_endless (Under entry) standing = (standing.over, refl)
after_endless (Names entry) standing = (standing.over, refl)

-- the same on this day, and with so many lines that are over
abbrev again : (today over : ℕ) → Standing → Standing
again today over standing = record standing { today = today; over = over }

endless_again : (saying : Saying) (standing : Standing) (today over : ℕ)
    → (later : ℕ) × (standing_after (endless saying) (again today over standing) ≡ again today later (standing_after (endless saying) standing))
endless_again (Over saying) standing today over = endless_again saying standing today over
endless_again Blank standing today over = (over, refl)
endless_again (Current authority) standing today over = (over, refl)
endless_again (Declares name key) standing today over = (over, refl)
endless_again (Under entry) standing today over = (over, refl)
endless_again (Names entry) standing today over = (over, refl)

after_alike : (one other : Saying) (standing : Standing) (today over : ℕ) → endless one ≡ endless other
    → (later : ℕ) × (standing_after one (again today over standing) ≡ again today later (standing_after other standing))
after_alike one other standing today over same =
    let left = after_endless one (again today over standing) in
    let right = after_endless other standing in
    let mid = endless_again one standing today over in (
      left.0,
      left.1 ∙ ap (λ (s : Standing). record s { over = left.0 }) mid.1
          ∙ ap (λ (saying : Saying). again today left.0 (standing_after saying standing)) same
          ∙ ap (again today left.0) (sym right.1),
    )

-- ---- lines

-- Both have the same fault, and the same stands behind them.
record EndSame (one other : LineEntries) : Type 0 where
  fault : one.fault ≡ other.fault
  stands : StandsSame one.standing other.standing

entry_same : (one other : Option Entry) (left right : LineEntries) → EndSame left right → EndSame (with_entry one left) (with_entry other right)
entry_same None None left right same = same
entry_same None (Some entry) left right same = record { fault = same.fault; stands = same.stands }
entry_same (Some entry) None left right same = record { fault = same.fault; stands = same.stands }
entry_same (Some entry) (Some more) left right same = record { fault = same.fault; stands = same.stands }

line_same : (standing : Standing) (today over number : ℕ) (later : Standing → LineEntries)
    → ((after : Standing) (more : ℕ) → EndSame (later (again today more after)) (later after)) → (one other : Result Saying TextCause) → IsAlike one other
    → EndSame (before_later number (again today over standing) one later) (before_later number standing other later)
line_same standing today over number later each (Err cause) other is = rw is (record { fault = refl; stands = record { current = refl; names = refl } })
line_same standing today over number later each (Ok one) other (saying, is, alike) =
    let after = after_alike one saying standing today over alike in
    let behind = standing_after saying standing in
    rw (is, after.1) (entry_same (entry_said one) (entry_said saying) (later (again today after.0 behind)) (later behind) (each behind after.0))

lines_same : (standing : Standing) (today over number : ℕ) (lines : List (List ℕ))
    → EndSame (lines_from (again today over standing) number lines) (lines_from standing number lines)
lines_same standing today over number [] = record { fault = refl; stands = record { current = refl; names = refl } }
lines_same standing today over number (line ∷ lines) =
    line_same standing today over number (λ after. lines_from after (number + 1) lines) (λ after more. lines_same after today more (number + 1) lines)
    (line_says (again today over standing) line) (line_says standing line) (line_alike standing today over line)

pub ends_same : (standing : Standing) (today : ℕ) (text : List ℕ)
    → ((lines_with (on_day today standing) text).fault ≡ (lines_with standing text).fault)
    × StandsSame (lines_with (on_day today standing) text).standing (lines_with standing text).standing
unfolding lines_with
ends_same standing today text =
    let same = lines_same (beginning standing) today standing.over 1 (slice_split is_newline text) in (same.fault, same.stands)
