-- The list is made of the texts.
use Rattle.text_run.proofs.MadeLists.{makes_over}
use Rattle.text_run.proofs.run.list_over.Goals as goal

pub returns-in-Ok-make-clause-made : goal.returns-in-Ok-make-clause-made
returns-in-Ok-make-clause-made g c =
    let made = rw c.in-Ok.ensures.same at c.in-Ok-make.ensures.made in
    rw (c.with_texts.ensures.bytes, c.with_texts.ensures.version, c.with_texts.ensures.revocations, c.with_texts.ensures.lost)
    (makes_over c.args.inputs.now c.in-Ok.list.revocations _ _ _ c.in-Ok.ensures.read made)
