-- The findings of the lines that are left are the end of the findings of all lines.
use Rattle.std.proofs.Common.{◌≡◌, ◌+◌, ◌≤◌, length, Result}
use Rattle.std.specs.List.{slice_split}
use Rattle.key_text.specs.Lines.{is_newline}
use Rattle.run_faults.specs.RunFault.{RunFault}
use Rattle.run_output.specs.Printer.{Printer}
use Rattle.krl_types.specs.Subject.{Subject}
use Rattle.audit_text.specs.Answer.{Answer}
use Rattle.krl_audit.specs.Audit.{JudgesAs, Told}
use Rattle.krl_audit.specs.Scan.{scanned_lines, scanned_from}
use Rattle.krl_audit.specs.Tally.{none_yet}
use Rattle.krl_audit.specs.declared.counts.Counts.{Counts}
use Rattle.krl_audit.specs.declared.tally.Tally.{Tally}
use Rattle.krl_audit.proofs.auditor.Auditor.audit_scanned.Given as goal

abbrev pub invariant-loop-tally : goal.invariant-loop-tally
invariant-loop-tally g l = record {
  told : (answers : Subject → Answer) → JudgesAs l.initial.self.judge answers → (result : Result Tally RunFault) (new : Printer) (after : Counts)
      → Told answers l.initial.self.judge.shown l.name l.tally (scanned_from (l.number + 1) (slice_split is_newline l.rest)) result l.self.run.printer new l.self.counts after
      → Told answers l.initial.self.judge.shown l.name none_yet (scanned_lines l.fn.text) result l.initial.self.run.printer new l.initial.self.counts after;
  judge : l.self.judge ≡ l.initial.self.judge;
  within : l.number + length l.rest ≤ length l.fn.text;
}

abbrev pub decreases-loop-tally : goal.decreases-loop-tally
decreases-loop-tally g l = length l.rest
