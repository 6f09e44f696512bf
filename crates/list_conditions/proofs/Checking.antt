-- A check uses exactly the counts of the audit of a file.
use Rattle.std.proofs.Common.{◌≡◌, ℕ, ◌||◌, Bool, not, List, Result, Ok, Err, ap, subst, ◌∙◌}
use Rattle.std.specs.Prelude.{OnOk}
use Rattle.run_faults.specs.RunFault.{RunFault}
use Rattle.run_output.specs.Carries.{Carries}
use Rattle.run_output.specs.Printer.{Printer}
use Rattle.run_output.proofs.RunParts.{carries_more, carries_then}
use Rattle.krl_types.specs.Subject.{Subject}
use Rattle.krl_entries.specs.declared.reasons.Reasons.{Reasons}
use Rattle.krl_audit.specs.Audit.{ToldFile, file_items, own_name}
use Rattle.krl_audit.specs.declared.counts.Counts.{Counts}
use Rattle.audit_text.specs.Answer.{unexplained}
use Rattle.audit_text.specs.declared.format.Format.{Format}
use Rattle.krl_audit.specs.declared.judge.Shown.{Shown}
use Rattle.audit_lines.specs.declared.why.Refusal.{Refusal}
use Rattle.list_conditions.specs.Check.{ChecksFile, counts_items, counts_of, lines_counted, none_counted}
use Rattle.list_conditions.specs.Role.{is_met, shown_for}
use Rattle.list_conditions.specs.declared.role.Role.{Role}

-- the audit was stopped
pub stopped : (form : Format) (role : Role) (shown : Shown) (reasons : Subject → Reasons) (name : List ℕ) (content : Result (List ℕ) Refusal) (stop : RunFault) (old new : Printer) (before after : Bool) (one two : Counts)
    → shown ≡ shown_for role form → ToldFile (unexplained reasons) shown (own_name name) content (Err stop) old new one two → ChecksFile form role reasons name content (Err stop) old new before after
stopped form role shown reasons name content stop old new before after one two shown_is told =
    let right : ToldFile (unexplained reasons) (shown_for role form) (own_name name) content (Err stop) old new one two = subst (λ (s : Shown). ToldFile (unexplained reasons) s (own_name name) content (Err stop) old new one two) shown_is told in
    record {
      carries = carries_more {A = Unit {0}} (file_items (unexplained reasons) (shown_for role form) (own_name name) content) (counts_items form role name (counts_of reasons name content)) stop old new right.carries;
      refused = tt;
    }

on_ok : (result : Result (Unit {0}) RunFault) (one two other : Bool) → one ≡ two → OnOk result (other ≡ one) → OnOk result (other ≡ two)
on_ok (Ok value) one two other is right = right ∙ is
on_ok (Err stop) one two other is right = tt

-- all was counted
pub counted : (form : Format) (role : Role) (shown : Shown) (reasons : Subject → Reasons) (name : List ℕ) (content : Result (List ℕ) Refusal) (value : Unit {0}) (result : Result (Unit {0}) RunFault) (old mid new : Printer) (before after : Bool) (counts : Counts)
    → shown ≡ shown_for role form → ToldFile (unexplained reasons) shown (own_name name) content (Ok value) old mid none_counted counts → Carries (counts_items form role name (lines_counted name content counts)) result mid new
    → OnOk result (after ≡ (before || not (is_met role (lines_counted name content counts)))) → ChecksFile form role reasons name content result old new before after
counted form role shown reasons name content value result old mid new before after counts shown_is told carries refused =
    let right : ToldFile (unexplained reasons) (shown_for role form) (own_name name) content (Ok value) old mid none_counted counts = subst (λ (s : Shown). ToldFile (unexplained reasons) s (own_name name) content (Ok value) old mid none_counted counts) shown_is told in
    let is : lines_counted name content counts ≡ counts_of reasons name content = ap (λ (c : Counts). lines_counted name content c) right.counts in
    record {
      carries = carries_then (file_items (unexplained reasons) (shown_for role form) (own_name name) content) (counts_items form role name (counts_of reasons name content)) value result old mid new right.carries
          (subst (λ (c : Counts). Carries (counts_items form role name c) result mid new) is carries);
      refused = on_ok result _ _ after (ap (λ (c : Counts). before || not (is_met role c)) is) refused;
    }
