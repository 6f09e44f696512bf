-- A text has no entry.
use Rattle.std.proofs.Common.{◌∙◌, ap}
use Rattle.text_run.specs.Fault.{whole_fault}
use Rattle.text_run.specs.Making.{Text}
use Rattle.text_run.specs.Over.{mute}
use Rattle.text_run.specs.declared.make_fault.MakeCause.TheVariants.{NoEntry}
use Rattle.text_run.proofs.listed.why_refused.Goals as goal

pub returns-in-Some : goal.returns-in-Some
returns-in-Some c =
    mute c.in-Some.text.now c.if-inputs.false c.in-Some.ensures (c.whole.ensures ∙ ap (λ (text : Text). whole_fault text.name NoEntry) c.text.view_is)
