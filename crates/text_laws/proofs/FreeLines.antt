-- A line that does not lack an authority says the same under any.
use Rattle.std.proofs.Common.{◌≡◌, ◌≢◌, ℕ, ℤ, List, Option, Some, None, Err, refl, ap, ◌∙◌, inl, inr}
use Rattle.std.proofs.lemmas.Bool.{cases_Bool}
use Rattle.run_faults.specs.declared.spec_cause.SpecCause.TheVariants as specs
use Rattle.krl_spec.specs.Blanks.{bare_line}
use Rattle.krl_spec.specs.Entries.{order_entry}
use Rattle.krl_spec.specs.declared.directive.Directive.TheVariants as directives
use Rattle.text_entries.specs.Day.{dated_content, is_over, last_day, until_in}
use Rattle.text_entries.specs.Lines.{beginning}
use Rattle.text_entries.specs.Mark.{Mark, mark_in}
use Rattle.text_entries.specs.Named.{can_end, named_in}
use Rattle.text_entries.specs.KeyId.{has_control, is_cut, no_id}
use Rattle.text_entries.specs.Says.{content_says, endless_says, ending_says, id_entry, is_misplaced, line_says, order_says, serial_entry, spec_entry, under_says, unless_cause, unless_over, until_says, word_says}
use Rattle.text_entries.specs.Values.{has_leading_zero}
use Rattle.text_entries.specs.Word.{Order, order_in}
use Rattle.text_entries.specs.declared.standing.Standing.{Standing}
use Rattle.text_entries.specs.declared.text_cause.TextCause.{TextCause}
use Rattle.text_entries.specs.declared.text_cause.TextCause.TheVariants as causes
use Rattle.text_entries.specs.declared.word.Word.{Word}
use Rattle.text_entries.specs.declared.word.Word.TheVariants.{Serial, Id, IdHex}

abbrev pub no_authority : TextCause
no_authority = causes.Spec specs.NoAuthority

serial_free : (authority given : List ℕ) → under_says (serial_entry None given) ≢ Err no_authority
    → under_says (serial_entry (Some authority) given) ≡ under_says (serial_entry None given)
serial_free authority given lacks = elim (cases_Bool (has_leading_zero given)) [
  | inl zero ↦ rw zero refl
  | inr other ↦ absurd (lacks (rw other refl))
]

-- a key ID that looks like something else, or not
no_id_free : (authority given : List ℕ) (found : Option TextCause) → under_says (unless_cause found (spec_entry (order_entry None directives.Id given))) ≢ Err no_authority
    → under_says (unless_cause found (spec_entry (order_entry (Some authority) directives.Id given))) ≡ under_says (unless_cause found (spec_entry (order_entry None directives.Id given)))
no_id_free authority given None lacks = absurd (lacks refl)
no_id_free authority given (Some cause) lacks = refl

id_free : (authority line given : List ℕ) → under_says (id_entry None line given) ≢ Err no_authority
    → under_says (id_entry (Some authority) line given) ≡ under_says (id_entry None line given)
id_free authority line given lacks = elim (cases_Bool (is_cut line)) [
  | inl cut ↦ rw cut refl
  | inr whole ↦ elim (cases_Bool (has_control given)) [
    | inl control ↦ rw (whole, control) refl
    | inr clean ↦ rw (whole, clean) (no_id_free authority given (no_id given) (λ none. lacks (rw (whole, clean) none)))
  ]
]

word_free : (authority line given : List ℕ) (word : Word) → word_says None line word given ≢ Err no_authority
    → word_says (Some authority) line word given ≡ word_says None line word given
word_free authority line given Serial lacks = serial_free authority given lacks
word_free authority line given Id lacks = id_free authority line given lacks
word_free authority line given IdHex lacks = absurd (lacks refl)
word_free authority line given word lacks = refl

-- ---- content

-- the same, but for the day, how many lines are over, and the current authority
abbrev pub placed : Standing → (today over : ℕ) → Option (List ℕ) → Standing
placed standing today over current = record standing { today = today; over = over; current = current }

-- the same under another current authority
abbrev pub under : Standing → Option (List ℕ) → Standing
under standing current = record standing { current = current }

-- Neither the day nor the number of lines that are over decides what content says without a last day.
order_placed : (standing : Standing) (today over : ℕ) (line content : List ℕ) (mark : Option Mark) (order : Option Order) → mark_in content ≡ mark
    → order_says (placed standing today over standing.current) line content order ≡ order_says standing line content order
order_placed standing today over line content None None found = rw found refl
order_placed standing today over line content (Some mark) None found = rw found refl
order_placed standing today over line content mark (Some order) found = refl

pub content_placed : (standing : Standing) (today over : ℕ) (line content : List ℕ)
    → content_says (placed standing today over standing.current) line content ≡ content_says standing line content
unfolding content_says
content_placed standing today over line content = order_placed standing today over line content (mark_in content) (order_in content) refl

order_free : (standing : Standing) (authority line content : List ℕ) (mark : Option Mark) (order : Option Order) → mark_in content ≡ mark
    → order_says (beginning standing) line content order ≢ Err no_authority
    → order_says (under standing (Some authority)) line content order ≡ order_says (beginning standing) line content order
order_free standing authority line content None None found lacks = rw found refl
order_free standing authority line content (Some mark) None found lacks = rw found refl
order_free standing authority line content mark (Some order) found lacks = word_free authority line order.given order.word lacks

content_under : (standing : Standing) (current : Option (List ℕ)) (line content : List ℕ) → content_says (beginning standing) line content ≢ Err no_authority
    → content_says (under standing current) line content ≡ content_says (beginning standing) line content
unfolding content_says
content_under standing None line content lacks = refl
content_under standing (Some authority) line content lacks = order_free standing authority line content (mark_in content) (order_in content) refl lacks

module _ (standing : Standing) (over : ℕ) (current : Option (List ℕ)) (line : List ℕ) where
  abbrev here : Standing
  here = placed standing standing.today over current

  abbrev free : Standing
  free = beginning standing

  content_free : (content : List ℕ) → content_says free line content ≢ Err no_authority → content_says here line content ≡ content_says free line content
  content_free content lacks = content_placed (under standing current) standing.today over line content ∙ content_under standing current line content lacks

  ending_free : (content : List ℕ) (day : Option ℤ) → ending_says free line content day ≢ Err no_authority
      → ending_says here line content day ≡ ending_says free line content day
  ending_free content None lacks = refl
  ending_free content (Some day) lacks = elim (cases_Bool (can_end (named_in content))) [
    | inl ends ↦
        rw ends (ap (unless_over (is_over standing.today day)) (content_free content (λ none. lacks (rw (ends, none) refl))))
    | inr never ↦ rw never refl
  ]

  endless_free : (content : List ℕ) → endless_says free line content ≢ Err no_authority → endless_says here line content ≡ endless_says free line content
  endless_free content lacks = elim (cases_Bool (is_misplaced line content)) [
    | inl misplaced ↦ rw misplaced refl
    | inr other ↦ rw other (content_free content (λ none. lacks (rw (other, none) refl)))
  ]

  until_free : (content : List ℕ) (behind : Option (List ℕ)) → until_says free line content behind ≢ Err no_authority
      → until_says here line content behind ≡ until_says free line content behind
  until_free content None lacks = endless_free content lacks
  until_free content (Some behind) lacks = ending_free (dated_content behind) (last_day behind) lacks

  pub says_free : line_says free line ≢ Err no_authority → line_says here line ≡ line_says free line
  unfolding line_says
  says_free lacks = until_free (bare_line line) (until_in (bare_line line)) lacks
