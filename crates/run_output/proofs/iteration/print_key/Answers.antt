-- The key has no answer, or its answer is printed.
use Rattle.std.proofs.Common.{Bool, true, false, [], ◌∷◌, Ok, ap, refl, subst, sym}
use Rattle.run_output.specs.Carries.{Carries}
use Rattle.run_faults.specs.Keys.{FileKey}
use Rattle.run_output.specs.Run.{Answered, Item}
use Rattle.run_output.proofs.RunParts.{carries_as, carries_passed}
use Rattle.run_output.proofs.iteration.print_key.Goals as goal

pub returns-in_default-clause-carries : goal.returns-in_default-clause-carries
returns-in_default-clause-carries g c =
    λ answering is.
    let item = rw c.in_default.is at (c.in_ok-answer.ensures.gives answering is) in
    subst (λ (i : Item). Carries {A = Bool} (i ∷ []) (Ok false) c.args.run.now.printer c.args.run.now.printer) (sym item) (carries_passed false c.args.key.now.name c.args.run.now.printer)

pub returns-clause-carries : goal.returns-clause-carries
returns-clause-carries g c =
    λ answering is.
    let item = rw c.in-Some.is at (c.in_ok-answer.ensures.gives answering is) in
    let said = rw (c.as_slice.ensures, ap (λ (key : FileKey). key.name) c.key.view_is) at c.in_ok-say.ensures.carries in
    subst (λ (i : Item). Carries {A = Bool} (i ∷ []) (Ok true) c.args.run.now.printer c.say.new.self) (sym item) (carries_as (Answered c.args.key.now.name c.in-Some.answer ∷ []) (Ok c.in_ok-say.field-0) (Ok true) c.args.run.now.printer c.say.new.self refl said)
