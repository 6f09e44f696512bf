-- The lines that a check prints for each condition, and its end.
use Rattle.std.specs.Prelude.{◌≡◌, ℕ, ◌||◌, not, Bool, true, false, List, [], ◌∷◌, ◌++◌}
use Rattle.std.specs.Prelude.{◌==◌, ◌&&◌, if◌then◌else◌, length, is_some, OnOk, Option, Some, None}
use Rattle.std.specs.Prelude.{Result, Ok, Err}
use Rattle.json_lines.specs.Field.{json_line}
use Rattle.run_faults.specs.RunFault.{RunFault}
use Rattle.run_output.specs.Carries.{Carries}
use Rattle.run_output.specs.Done.{EndsWith}
use Rattle.run_output.specs.Printer.{Printer}
use Rattle.run_output.specs.Run.{Item, Passed, said_of}
use Rattle.krl_types.specs.Entry.{Entry}
use Rattle.krl_types.specs.Naming.{Name, SomeNames}
use Rattle.krl_types.specs.Subject.{Subject}
use Rattle.krl_entries.specs.Revocations.{Revocations}
use Rattle.krl_entries.specs.declared.reasons.Reasons.{Reasons}
use Rattle.krl_audit.specs.Audit.{file_items, file_kinds, own_name}
use Rattle.krl_audit.specs.Counts.{all_counted}
use Rattle.audit_lines.specs.Keyless.{keyless_lines}
use Rattle.krl_audit.specs.declared.counts.Counts.{Counts}
use Rattle.audit_text.specs.Answer.{unexplained}
use Rattle.audit_text.specs.declared.format.Format.{Format}
use Rattle.audit_text.specs.declared.format.Format.TheVariants as formats
use Rattle.audit_lines.specs.declared.why.Refusal.{Refusal}
use Rattle.list_conditions.specs.Condition.{fails}
use Rattle.list_conditions.specs.Object.{condition_object, end_object}
use Rattle.list_conditions.specs.Role.{is_met, shown_for}
use Rattle.list_conditions.specs.Text.{condition_line}
use Rattle.list_conditions.specs.declared.condition.Condition.{Condition}
use Rattle.list_conditions.specs.declared.condition.Condition.TheVariants.{Keys}
use Rattle.list_conditions.specs.declared.role.Role.{Role}

-- a line is printed, or nothing
abbrev pub said_where : Bool → List ℕ → List ℕ → List Item
said_where true name text = said_of name text ∷ []
said_where false name text = []

abbrev pub is_json : Format → Bool
is_json formats.Text = false
is_json formats.Colour = false
is_json formats.Json = true

-- the line of a condition, for people or as a JSON object
abbrev pub condition_said : Format → List ℕ → Condition → List ℕ
condition_said form name condition =
    if is_json form then json_line (condition_object name condition)
    else condition_line name condition

-- A condition that holds has a line only as JSON.
abbrev pub condition_items : Format → List ℕ → Condition → List Item
condition_items form name condition =
    said_where (is_json form || fails condition) name (condition_said form name condition)

-- the last line, which only JSON has
abbrev pub end_items : Format → List ℕ → (refused : Bool) → List Item
end_items form name refused = said_where (is_json form) name (json_line (end_object refused))

-- ---- lists that revoke nobody

-- no entry names anything: neither a key, a hash nor a key ID, nor a serial number other than 0
abbrev pub NamesNobody : List Entry → Type 0
NamesNobody entries = (name : Name) → SomeNames entries name → ⊥

-- nothing is held
abbrev pub names_nobody : Revocations → Bool
names_nobody list =
    (length list.sections == 0) && ((length list.keys == 0)
    && ((length list.sha1s == 0) && (length list.sha256s == 0)))

-- ---- the keys of a file

-- nothing was counted
abbrev pub none_counted : Counts
none_counted = record { keys = 0; revoked = 0; unread = 0 }

-- these lines are not read
abbrev pub with_unread : Option ℕ → Counts → Counts
with_unread None counts = counts
with_unread (Some lines) counts = record counts { unread = lines }

-- The counts of an audited file. The lines of a file without a key count one by one, which an audit
-- may report as a whole.
abbrev pub lines_counted : List ℕ → Result (List ℕ) Refusal → Counts → Counts
lines_counted name (Err refusal) counts = counts
lines_counted name (Ok text) counts = with_unread (keyless_lines name text) counts

-- the counts of a file
abbrev pub counts_of : (Subject → Reasons) → List ℕ → Result (List ℕ) Refusal → Counts
counts_of reasons name content =
    let kinds = file_kinds (unexplained reasons) (Some name) content in
    lines_counted name content (all_counted none_counted kinds)

-- There may be no memory to count the lines of the file again.
abbrev pub counts_items : Format → Role → List ℕ → Counts → List Item
counts_items form role name counts =
    Passed name ∷ condition_items form name (Keys role counts)

-- the keys that do not meet the condition, and then the file
abbrev pub keys_items : Format → Role → (Subject → Reasons) → List ℕ → Result (List ℕ) Refusal
    → List Item
keys_items form role reasons name content =
    file_items (unexplained reasons) (shown_for role form) (own_name name) content
    ++ counts_items form role name (counts_of reasons name content)

-- The keys of a file were checked, after the earlier checks; or the check was stopped.
pub record ChecksFile (form : Format) (role : Role) (reasons : Subject → Reasons) (name : List ℕ)
    (content : Result (List ℕ) Refusal) (result : Result (Unit {0}) RunFault) (old new : Printer)
    (before after : Bool) : Type 0 where
  pub carries : Carries (keys_items form role reasons name content) result old new
  pub refused : OnOk result
      (after ≡ (before || not (is_met role (counts_of reasons name content))))

-- the exit status, by whether the result is unknown and whether a condition failed
abbrev pub check_status : Bool → Bool → ℕ
check_status true refused = 255
check_status false true = 1
check_status false false = 0

-- The check ended as a run over its items does, with the status of its conditions.
pub record EndsCheck (run : List Item) (refused unread : Bool) (before after : Option (List ℕ))
    (failed : Bool) (status : ℕ) (fault : Option RunFault) : Type 0 where
  pub ends : EndsWith run before after failed fault
  pub status_is : status ≡ check_status (is_some fault || unread) refused
