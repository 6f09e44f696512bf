-- The printed output is sent.
use Rattle.std.proofs.Common.{ℕ, List, [], Result, Ok, Err, subst}
use Rattle.std.proofs.lemmas.List.{append-nil}
use Rattle.run_faults.specs.RunFault.{RunFault}
use Rattle.run_output.specs.Carries.{Carries}
use Rattle.run_output.specs.Printer.{Printer}
use Rattle.run_output.specs.Run.{Item}
use Rattle.run_output.proofs.RunParts.{carries_then}
use Rattle.krl_types.specs.Subject.{Subject}
use Rattle.audit_text.specs.Answer.{Answer}
use Rattle.krl_audit.specs.Audit.{FileName, ToldFile}
use Rattle.krl_audit.specs.declared.counts.Counts.{Counts}
use Rattle.krl_audit.specs.declared.judge.Shown.{Shown}
use Rattle.audit_lines.specs.declared.why.Refusal.{Refusal}

pub carried_and_sent : (items : List Item) (value : Unit {0}) (result : Result (Unit {0}) RunFault) (old mid new : Printer)
    → Carries {A = Unit {0}} items (Ok value) old mid → Carries {A = Unit {0}} [] result mid new → Carries {A = Unit {0}} items result old new
carried_and_sent items value result old mid new first second =
    subst (λ (all : List Item). Carries {A = Unit {0}} all result old new) (append-nil items)
    (carries_then items [] value result old mid new first second)

pub told_and_sent : (answers : Subject → Answer) (shown : Shown) (name : FileName) (content : Result (List ℕ) Refusal) (value : Unit {0})
    (result : Result (Unit {0}) RunFault) (old mid new : Printer) (before after : Counts)
    → ToldFile answers shown name content (Ok value) old mid before after → Carries {A = Unit {0}} [] result mid new
    → ToldFile answers shown name content result old new before after
told_and_sent answers shown name content value (Ok done) old mid new before after told sent =
    record { carries = carried_and_sent _ value (Ok done) old mid new told.carries sent; counts = told.counts }
told_and_sent answers shown name content value (Err stop) old mid new before after told sent =
    record { carries = carried_and_sent _ value (Err stop) old mid new told.carries sent; counts = tt }
