-- The digits and the unit are those of the text.
use Rattle.std.proofs.Common.{◌∙◌, ap₂, sym}
use Rattle.krl_arguments.proofs.Durations.{duration_by, no_duration}
use Rattle.krl_arguments.specs.Duration.{whole_seconds}
use Rattle.krl_arguments.proofs.duration.duration_of.Goals as goal

pub returns-in-Some : goal.returns-in-Some
returns-in-Some c =
    let is = rw c.as_bytes.ensures.value at c.in-Some.ensures.cases in
    c.whole_seconds.ensures ∙ ap₂ whole_seconds c.number_in.ensures c.seconds_of.ensures
    ∙ sym (duration_by c.args.text.now c.in-Some.digits.now c.in-Some.unit.now is.0 is.1)

pub returns-in-None : goal.returns-in-None
returns-in-None c =
    let none = rw c.as_bytes.ensures.value at c.in-None.ensures.cases in
    sym (no_duration c.args.text.now none)
