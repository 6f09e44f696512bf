-- What is found in a log, and what is printed and counted of it.
use Rattle.std.specs.Prelude.{◌≡◌, ℕ, Bool, true, List, [], ◌∷◌, map, OnOk, Result}
use Rattle.run_faults.specs.RunFault.{RunFault}
use Rattle.run_output.specs.Carries.{Carries}
use Rattle.run_output.specs.Printer.{Printer}
use Rattle.run_output.specs.Run.{Item}
use Rattle.krl_types.specs.Subject.{Subject}
use Rattle.krl_entries.specs.Reasons.{any_reason}
use Rattle.audit_lines.specs.declared.why.Why.TheVariants as whys
use Rattle.audit_text.specs.Answer.{Answer}
use Rattle.audit_text.specs.Place.{line_place}
use Rattle.audit_text.specs.Said.{unread_said}
use Rattle.audit_text.specs.declared.format.Format.{Format}
use Rattle.audit_text.specs.declared.line_kind.LineKind.{LineKind}
use Rattle.audit_text.specs.declared.line_kind.LineKind.TheVariants as kinds
use Rattle.krl_audit.specs.Audit.{JudgesAs, revoked_or_fine, said_if, says}
use Rattle.krl_audit.specs.Counts.{all_counted, one_more}
use Rattle.krl_audit.specs.declared.auditor.Auditor.{Auditor}
use Rattle.krl_audit.specs.declared.counts.Counts.{Counts}
use Rattle.krl_audit.specs.declared.judge.Shown.{Shown}
use Rattle.login_lines.specs.Logins.{Reported}
use Rattle.login_text.specs.Asked.{asked_by}
use Rattle.login_text.specs.Object.{login_said, unread_login_said}
use Rattle.login_text.specs.Outcome.{IsOutcome, Login, Other, Outcome, Unread}
use Rattle.login_text.specs.declared.why.LoginWhy.TheVariants.{Line}
use Rattle.login_run.specs.declared.judging.NotRead.{NotRead}
use Rattle.login_run.specs.declared.judging.NotRead.TheVariants as reasons

-- nothing; a login with its decoded key ID; or why a line or a log is not read
pub data Finding : Type 0 where
  Nothing : Finding
  Reports : Reported → (id : List ℕ) → Finding
  Lacks : NotRead → Finding

abbrev pub finding_of : Outcome → Finding
finding_of Other = Nothing
finding_of (Login login id) = Reports login id
finding_of (Unread fault) = Lacks (reasons.Log (Line fault))

-- a finding at a line of a log; the number 0 represents the whole log
pub record Placed : Type 0 where
  pub name : List ℕ
  pub number : ℕ
  pub finding : Finding

abbrev pub place : (name : List ℕ) → ℕ → Finding → Placed
place name number finding = record { name = name; number = number; finding = finding }

-- ---- one finding

abbrev pub kind_of : (Subject → Answer) → Finding → LineKind
kind_of answers Nothing = kinds.Empty
kind_of answers (Reports login id) =
    revoked_or_fine (any_reason (answers (asked_by login id)).reasons)
kind_of answers (Lacks why) = kinds.Unread

abbrev pub not_read_text : Format → (name : List ℕ) → ℕ → NotRead → List ℕ
not_read_text form name number (reasons.Log why) =
    unread_login_said form (line_place name number) why
not_read_text form name number (reasons.File refusal) =
    unread_said form (line_place name number) (whys.File refusal)

abbrev pub finding_text : Format → (Subject → Answer) → (name : List ℕ) → ℕ → Finding → List ℕ
finding_text form answers name number Nothing = []
finding_text form answers name number (Reports login id) =
    login_said form (line_place name number) login id (asked_by login id)
    (answers (asked_by login id))
finding_text form answers name number (Lacks why) = not_read_text form name number why

abbrev pub finding_item : (Subject → Answer) → Shown → Placed → Item
finding_item answers shown placed =
    said_if (says shown (kind_of answers placed.finding)) placed.name
    (finding_text shown.format answers placed.name placed.number placed.finding)

-- the line that was made for a finding, if it is to be printed
pub record IsMade (answers : Subject → Answer) (shown : Shown) (placed : Placed)
    (kind : LineKind) (said : Bool) (text : List ℕ) : Type 0 where
  pub kind_is : kind ≡ kind_of answers placed.finding
  pub said_is : said ≡ says shown kind
  pub text_is : said ≡ true
      → text ≡ finding_text shown.format answers placed.name placed.number placed.finding

-- ---- some findings

abbrev pub items_of : (Subject → Answer) → Shown → List Placed → List Item
items_of answers shown placed = map (finding_item answers shown) placed

abbrev pub kinds_of : (Subject → Answer) → List Placed → List LineKind
kinds_of answers placed = map (λ one. kind_of answers one.finding) placed

-- Exactly these findings were printed after the earlier ones, and counted; or the run was stopped
-- within them.
pub record Told (answers : Subject → Answer) (shown : Shown)
    (placed : List Placed) {A : Type 0} (result : Result A RunFault) (old new : Printer)
    (before after : Counts) : Type 0 where
  pub carries : Carries (items_of answers shown placed) result old new
  pub counts : OnOk result (after ≡ all_counted before (kinds_of answers placed))

-- The same, by the answers that the list and the texts give.
pub record Tells {W : Type 0} (old : Auditor W) (placed : List Placed) {A : Type 0}
    (result : Result A RunFault) (new : Auditor W) : Type 0 where
  pub told : (answers : Subject → Answer) → JudgesAs old.judge answers
      → Told answers old.judge.shown placed result old.run.printer new.run.printer old.counts
      new.counts
  pub judge : new.judge ≡ old.judge

-- ---- the lines of a log

-- the number of the next line, which stops at its maximum
abbrev pub next_number : ℕ → ℕ
next_number number = one_more number true

abbrev pub number_after : ℕ → List (List ℕ) → ℕ
number_after number [] = number
number_after number (line ∷ lines) = number_after (next_number number) lines

-- each line has its outcome
abbrev pub AreOutcomes : List (List ℕ) → List Outcome → Type 0
AreOutcomes [] [] = Unit {0}
AreOutcomes [] (outcome ∷ outcomes) = ⊥
AreOutcomes (line ∷ lines) [] = ⊥
AreOutcomes (line ∷ lines) (outcome ∷ outcomes) =
    IsOutcome line outcome × AreOutcomes lines outcomes

-- the findings of lines, after this many others
abbrev pub placed_after : (name : List ℕ) → ℕ → List Outcome → List Placed
placed_after name number [] = []
placed_after name number (outcome ∷ outcomes) =
    place name (next_number number) (finding_of outcome)
    ∷ placed_after name (next_number number) outcomes

-- The findings of lines were printed and counted, after this many other lines.
abbrev pub TellsLines : {W : Type 0} → Auditor W → (name : List ℕ) → ℕ → List (List ℕ)
    → {A : Type 0} → Result A RunFault → Auditor W → Type 0
TellsLines old name number lines result new =
    (outcomes : List Outcome) → AreOutcomes lines outcomes
    → Tells old (placed_after name number outcomes) result new
