-- The pieces are those of the misspelt word.
use Rattle.std.proofs.Common.{◌∙◌, ap}
use Rattle.text_run.specs.Words.{meant_words}
use Rattle.text_run.proofs.refusal.meant_words.Goals as goal

pub returns : goal.returns
returns c =
    (rw (c.new-text.ensures.items, c.as_bytes.ensures.value) at c.in_ok-put.ensures) ∙ ap meant_words c.misspelt.view_is
