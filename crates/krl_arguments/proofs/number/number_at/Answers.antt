-- The number of the value that was found.
use Rattle.std.proofs.Common.{◌∙◌, ℕ, List, Option, ap}
use Rattle.std.specs.Prelude.{option_and_then}
use Rattle.krl_job.specs.Job.{number_of}
use Rattle.krl_arguments.proofs.number.number_at.Goals as goal

pub returns-in-Some : goal.returns-in-Some
returns-in-Some c =
    c.number_of.ensures ∙ ap (λ (o : Option (List ℕ)). option_and_then number_of o) c.in-Some.ensures

pub returns-in-None : goal.returns-in-None
returns-in-None c =
    ap (λ (o : Option (List ℕ)). option_and_then number_of o) c.in-None.ensures
