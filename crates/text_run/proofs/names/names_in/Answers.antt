-- The names are those that stand after the texts.
use Rattle.text_run.proofs.names.names_in.Goals as goal

pub returns-in-Ok-names_of-clause-named : goal.returns-in-Ok-names_of-clause-named
returns-in-Ok-names_of-clause-named c =
    let adds = rw c.day_of.ensures at c.in-Ok.ensures in
    (_, adds.1, λ key. c.in-Ok-names_of.ensures.named key)
