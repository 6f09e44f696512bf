-- Nothing is printed.
use Rattle.std.proofs.Common.{Bool, [], ◌∷◌, Ok, subst, sym}
use Rattle.run_output.specs.Carries.{Carries}
use Rattle.run_output.proofs.RunParts.{carries_passed}
use Rattle.krl_audit.specs.Audit.{said_if}
use Rattle.krl_audit.proofs.auditor.say_made.Goals as goal

pub returns-else-said : goal.returns-else-said
returns-else-said g c =
    subst (λ (said : Bool). Carries {A = Unit {0}} (said_if said c.args.name.now c.args.run.now.line.items ∷ []) (Ok (tt {0})) c.args.run.now.printer c.args.run.now.printer) (sym c.if-said.false)
    (carries_passed (tt {0}) c.args.name.now c.args.run.now.printer)
