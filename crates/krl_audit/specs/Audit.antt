-- Auditing files: the findings of their lines, and the counts.
use Rattle.std.specs.Borrow.{Bor}
use Rattle.std.specs.Prelude.{◌≡◌, ℕ, ◌-◌, ◌&&◌, Bool, true, false, List, [], ◌∷◌, ◌++◌}
use Rattle.std.specs.Prelude.{IfOk, is_some, map, nat_lt, OnOk, Option, option_map, Some, None}
use Rattle.std.specs.Prelude.{Result, Ok, Err}
use Rattle.key_text.specs.declared.marker.Marker.{Marker}
use Rattle.key_text.specs.declared.marker.Marker.TheVariants as markers
use Rattle.krl_types.specs.Subject.{Subject}
use Rattle.krl_types.specs.Entry.{Entry}
use Rattle.krl_entries.specs.Reasons.{any_reason, has_reason, held_reasons, reasons_of}
use Rattle.krl_entries.specs.Revocations.{Means, Revocations}
use Rattle.krl_entries.specs.declared.reasons.Reason.TheVariants.{Key as reason_of_key}
use Rattle.audit_text.specs.Answer.{Answer}
use Rattle.krl_entries.specs.declared.reasons.Reasons.{Reasons}
use Rattle.run_faults.specs.RunFault.{RunFault}
use Rattle.run_output.specs.Carries.{Carries}
use Rattle.run_output.specs.Done.{EndsWith}
use Rattle.run_output.specs.Printer.{Printer}
use Rattle.run_output.specs.Run.{Item, Passed, said_of}
use Rattle.key_text.specs.Armour.{begins_container}
use Rattle.krl_audit.specs.Counts.{all_counted, audit_status}
use Rattle.audit_lines.specs.Front.{fronts_of}
use Rattle.audit_text.specs.More.{more_said}
use Rattle.audit_lines.specs.Keyless.{keyless}
use Rattle.audit_text.specs.Place.{Place, file_place, label_now}
use Rattle.audit_text.specs.Said.{key_said, unread_said}
use Rattle.audit_lines.specs.Outcome.{Empty, Key, Outcome, Outcomes, Placed}
use Rattle.audit_lines.specs.Outcome.{Unread, place, placed_from, plain_lines, private_lines}
use Rattle.krl_audit.specs.Scan.{scanned_lines}
use Rattle.krl_audit.specs.Tally.{all_tallied, most, none_yet, tallied, within}
use Rattle.text_index.specs.Explaining.{explained_by}
use Rattle.text_index.specs.Indexing.{HasRegister}
use Rattle.text_index.specs.NamingLines.{Register}
use Rattle.text_index.specs.declared.indexing.TextIndex.{TextIndex}
use Rattle.krl_audit.specs.declared.auditor.Auditor.{Auditor}
use Rattle.krl_audit.specs.declared.auditor.FileName.{FileName as FileNameOf}
use Rattle.krl_audit.specs.declared.counts.Counts.{Counts}
use Rattle.audit_text.specs.declared.line_kind.LineKind.{LineKind}
use Rattle.audit_text.specs.declared.line_kind.LineKind.TheVariants as kinds
use Rattle.audit_text.specs.declared.format.Format.{Format}
use Rattle.krl_audit.specs.declared.judge.Judge.{Judge}
use Rattle.krl_audit.specs.declared.judge.Shown.{Shown}
use Rattle.krl_audit.specs.declared.tally.Tally.{Tally}
use Rattle.audit_lines.specs.declared.why.Refusal.{Refusal}
use Rattle.audit_lines.specs.declared.why.Why.{Why}
use Rattle.audit_lines.specs.declared.why.Why.TheVariants as whys

-- ---- a line

abbrev pub revoked_or_fine : Bool → LineKind
revoked_or_fine true = kinds.Revoked
revoked_or_fine false = kinds.Fine

-- a key that its line marks as revoked is not a finding
abbrev pub key_kind : Option Marker → Bool → LineKind
key_kind (Some markers.Revoked) revoked = kinds.Distrusted
key_kind (Some markers.Authority) revoked = revoked_or_fine revoked
key_kind None revoked = revoked_or_fine revoked

-- the kind of a line
abbrev pub kind_of : (Subject → Answer) → Outcome → LineKind
kind_of answers Empty = kinds.Empty
kind_of answers (Key found) = key_kind found.marker (any_reason (answers found.asked).reasons)
kind_of answers (Unread why) = kinds.Unread

-- whether a line of this kind is printed
abbrev pub says : Shown → LineKind → Bool
says shown kinds.Empty = false
says shown kinds.Distrusted = false
says shown kinds.Fine = shown.fine
says shown kinds.Revoked = shown.revoked
says shown kinds.Unread = shown.unread

-- the line that is printed for an outcome
abbrev pub outcome_line : Format → (Subject → Answer) → Place → Outcome → List ℕ
outcome_line form answers place Empty = []
outcome_line form answers place (Key found) = key_said form place found (answers found.asked)
outcome_line form answers place (Unread why) = unread_said form place why

abbrev pub said_if : Bool → List ℕ → List ℕ → Item
said_if true name text = said_of name text
said_if false name text = Passed name

-- the place of an outcome in the file of this name, behind the label
abbrev pub found_at : Shown → List ℕ → Placed → Place
found_at shown name placed = record {
  label = label_now shown.label;
  name = name;
  number = placed.number;
  column = placed.column;
}

-- the item of an outcome
abbrev pub line_item : (Subject → Answer) → Shown → List ℕ → Placed → Item
line_item answers shown name placed =
    said_if (says shown (kind_of answers placed.outcome)) name
    (outcome_line shown.format answers (found_at shown name placed) placed.outcome)

-- ---- files

-- The name of a file, and the name by which it is decided how its lines are read. If there is none,
-- keys are found anywhere in them.
pub record FileName : Type 0 where
  pub shown : List ℕ
  pub read_as : Option (List ℕ)

-- a file whose own name decides it
abbrev pub own_name : List ℕ → FileName
own_name name = record { shown = name; read_as = Some name }

-- a file with keys anywhere in its lines
abbrev pub scanned_name : List ℕ → FileName
scanned_name name = record { shown = name; read_as = None }

abbrev pub name_by : FileNameOf → FileName
name_by name =
    record { shown = name.shown.now; read_as = option_map (λ path. path.now) name.read_as }

-- the file as a whole, which has the number 0
abbrev pub whole : Why → List Placed
whole why = place 0 (Unread why) ∷ []

-- the lines of a file, or the file as a whole
abbrev pub or_whole : Option ℕ → List Outcomes → List Placed
or_whole None lines = placed_from 1 lines
or_whole (Some count) lines = whole (whys.NoKeys count)

abbrev pub text_lines : Bool → (name text : List ℕ) → List Placed
text_lines true name text = private_lines name text
text_lines false name text =
    let lines = plain_lines (fronts_of name) text in or_whole (keyless lines) lines

-- the outcomes of a text that is read as one of this name, or in which keys are found anywhere
abbrev pub lines_by : Option (List ℕ) → List ℕ → List Placed
lines_by None text = scanned_lines text
lines_by (Some name) text = text_lines (begins_container text) name text

-- the outcomes of a file, by its bytes or why there are none
unfoldable pub file_lines : Option (List ℕ) → Result (List ℕ) Refusal → List Placed
file_lines read_as (Err refusal) = whole (whys.File refusal)
file_lines read_as (Ok text) = lines_by read_as text

-- ---- the items of a file

-- the items of lines after these lines of their file
abbrev pub lines_items : (Subject → Answer) → Shown → List ℕ → Tally → List Placed → List Item
lines_items answers shown name tally [] = []
lines_items answers shown name tally (line ∷ lines) =
    line_item answers (within tally shown) name line
    ∷ lines_items answers shown name (tallied tally (kind_of answers line.outcome)) lines

-- how many lines of a kind there are, beyond those that are printed one by one
abbrev pub more_item : Shown → List ℕ → LineKind → ℕ → Item
more_item shown name kind lines =
    said_if (says shown kind && nat_lt most lines) name
    (more_said shown.format (file_place (label_now shown.label) name) kind (lines - most))

-- the last items of a file
abbrev pub rest_items : Shown → List ℕ → Tally → List Item
rest_items shown name tally =
    more_item shown name kinds.Revoked tally.revoked
    ∷ more_item shown name kinds.Unread tally.unread
    ∷ more_item shown name kinds.Fine tally.fine ∷ []

abbrev pub kinds_of : (Subject → Answer) → List Placed → List LineKind
kinds_of answers lines = map (λ line. kind_of answers line.outcome) lines

-- the items of a file, and the kinds of lines that are counted
unfoldable pub file_items : (Subject → Answer) → Shown → FileName → Result (List ℕ) Refusal
    → List Item
file_items answers shown name content =
    let lines = file_lines name.read_as content in
    lines_items answers shown name.shown none_yet lines
    ++ rest_items shown name.shown (all_tallied none_yet (kinds_of answers lines))

unfoldable pub file_kinds : (Subject → Answer) → Option (List ℕ) → Result (List ℕ) Refusal
    → List LineKind
file_kinds answers read_as content = kinds_of answers (file_lines read_as content)

-- ---- the line that was made for an outcome

pub record IsMade (answers : Subject → Answer) (shown : Shown) (place : Place)
    (outcome : Outcome) (kind : LineKind) (said : Bool) (text : List ℕ) : Type 0 where
  pub kind_is : kind ≡ kind_of answers outcome
  pub said_is : said ≡ says shown kind
  pub text_is : said ≡ true → text ≡ outcome_line shown.format answers place outcome

-- the bytes of a file, or why there are none
abbrev pub content_of : Result (Bor (List ℕ)) Refusal → Result (List ℕ) Refusal
content_of (Ok text) = Ok text.now
content_of (Err refusal) = Err refusal

-- no reason for a canary, and for another key these
abbrev pub reasons_unless : (is_canary : Bool) → Reasons → Reasons
reasons_unless true reasons = record { bits = 0 }
reasons_unless false reasons = reasons

-- the reasons that a list gives, by the keys that are canaries
abbrev pub reasons_beside : Option (Bor Revocations) → Revocations → Subject → Reasons
reasons_beside None list asked = held_reasons list asked
reasons_beside (Some canaries) list asked =
    reasons_unless (has_reason (held_reasons canaries.now asked) reason_of_key)
    (held_reasons list asked)

abbrev pub judged_reasons : Judge → Subject → Reasons
judged_reasons judge asked = reasons_beside judge.canaries judge.list.now asked

-- The index, if there is one, has exactly these lines and names.
abbrev pub AreIndexed : Option (Bor TextIndex) → Option Register → Type 0
AreIndexed None None = Unit {0}
AreIndexed None (Some texts) = ⊥
AreIndexed (Some index) None = ⊥
AreIndexed (Some index) (Some texts) = HasRegister index.now texts

-- The index, if there is one, is that of texts without a fault.
abbrev pub IsUsable : Option (Bor TextIndex) → Type 0
IsUsable None = Unit {0}
IsUsable (Some index) = (texts : Register) × HasRegister index.now texts

-- these reasons, and which of the lines give them
abbrev pub answer_by : Option Register → Subject → Reasons → Answer
answer_by texts asked reasons = record {
  reasons = reasons;
  explained = option_map (λ register. explained_by register asked reasons) texts;
}

-- A list gives these reasons, but for canaries, and the texts explain them so.
pub record AnswersAs (canaries : Option (Bor Revocations)) (list : Revocations)
    (index : Option (Bor TextIndex)) (answers : Subject → Answer) : Type 0 where
  pub texts : Option Register
  pub indexed : AreIndexed index texts
  pub answers_are : (asked : Subject)
      → answer_by texts asked (reasons_beside canaries list asked) ≡ answers asked

abbrev pub JudgesAs : Judge → (Subject → Answer) → Type 0
JudgesAs judge answers = AnswersAs judge.canaries judge.list.now judge.texts answers

-- ---- what entries mean

-- the reasons for which entries revoke a key, by the entries whose keys are canaries
abbrev pub reasons_but : Option (List Entry) → List Entry → Subject → Reasons
reasons_but None entries = reasons_of entries
reasons_but (Some canaries) entries =
    λ asked. reasons_unless (has_reason (reasons_of canaries asked) reason_of_key)
    (reasons_of entries asked)

-- the same reasons, and which of the lines give them
abbrev pub answers_but : Option (List Entry) → List Entry → Option Register → Subject
    → Answer
answers_but canaries entries texts asked =
    answer_by texts asked (reasons_but canaries entries asked)

-- These entries have the keys that are canaries.
abbrev pub MeanCanaries : Option (Bor Revocations) → Option (List Entry) → Type 0
MeanCanaries None None = Unit {0}
MeanCanaries None (Some entries) = ⊥
MeanCanaries (Some held) None = ⊥
MeanCanaries (Some held) (Some entries) = Means held.now entries

-- The line was printed if it is to be printed, and this is its kind; or the audit was stopped at
-- it.
pub record SaysLine (answers : Subject → Answer) (shown : Shown) (name : List ℕ) (line : Placed)
    (result : Result LineKind RunFault) (old new : Printer) : Type 0 where
  pub carries : Carries (line_item answers shown name line ∷ []) result old new
  pub kind_is : IfOk result (λ kind. kind ≡ kind_of answers line.outcome)

-- Exactly the items of these lines were printed after the earlier ones, and all lines were counted;
-- or the audit was stopped within them. Before them their file had lines of these numbers.
pub record Told (answers : Subject → Answer) (shown : Shown) (name : List ℕ) (tally : Tally)
    (lines : List Placed) (result : Result Tally RunFault) (old new : Printer)
    (before after : Counts) : Type 0 where
  pub carries : Carries (lines_items answers shown name tally lines) result old new
  pub counts : OnOk result (after ≡ all_counted before (kinds_of answers lines))
  pub tally_is : IfOk result (λ now. now ≡ all_tallied tally (kinds_of answers lines))

-- The same for an auditor, by the answers that its list and its texts give.
abbrev pub Tells : {W : Type 0} → Auditor W → List ℕ → Tally → List Placed
    → Result Tally RunFault → Auditor W → Type 0
Tells old name tally lines result new =
    (answers : Subject → Answer) → JudgesAs old.judge answers
    → Told answers old.judge.shown name tally lines result old.run.printer new.run.printer
    old.counts new.counts

-- The same for a file.
pub record ToldFile (answers : Subject → Answer) (shown : Shown) (name : FileName)
    (content : Result (List ℕ) Refusal) (result : Result (Unit {0}) RunFault) (old new : Printer)
    (before after : Counts) : Type 0 where
  pub carries : Carries (file_items answers shown name content) result old new
  pub counts : OnOk result (after ≡ all_counted before (file_kinds answers name.read_as content))

-- The audit ended as a run over its items does, with the status of its counts.
pub record EndsAudit (run : List Item) (counts : Counts) (before after : Option (List ℕ))
    (failed : Bool) (status : ℕ) (fault : Option RunFault) : Type 0 where
  pub ends : EndsWith run before after failed fault
  pub status_is : status ≡ audit_status (is_some fault) counts
