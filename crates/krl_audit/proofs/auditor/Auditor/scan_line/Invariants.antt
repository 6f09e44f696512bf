-- The findings of the places that are left are the end of the findings of all places.
use Rattle.std.proofs.Common.{◌≡◌, length, Result}
use Rattle.run_faults.specs.RunFault.{RunFault}
use Rattle.run_output.specs.Printer.{Printer}
use Rattle.krl_types.specs.Subject.{Subject}
use Rattle.audit_text.specs.Answer.{Answer}
use Rattle.krl_audit.specs.Audit.{JudgesAs, Told}
use Rattle.krl_audit.specs.Scan.{placed_in, placed_with}
use Rattle.krl_audit.specs.declared.counts.Counts.{Counts}
use Rattle.krl_audit.specs.declared.tally.Tally.{Tally}
use Rattle.krl_audit.proofs.auditor.Auditor.scan_line.Given as goal

abbrev pub invariant-places : goal.invariant-places
invariant-places g l = record {
  told : (answers : Subject → Answer) → JudgesAs l.initial.self.judge answers → (result : Result Tally RunFault) (new : Printer) (after : Counts)
      → Told answers l.initial.self.judge.shown l.fn.at.name.now l.tally (placed_with l.fn.at.number l.places) result l.self.run.printer new l.self.counts after
      → Told answers l.initial.self.judge.shown l.fn.at.name.now l.initial.tally (placed_in l.fn.at.number l.fn.line) result l.initial.self.run.printer new l.initial.self.counts after;
  judge : l.self.judge ≡ l.initial.self.judge;
}

abbrev pub decreases-places : goal.decreases-places
decreases-places g l = length l.places
