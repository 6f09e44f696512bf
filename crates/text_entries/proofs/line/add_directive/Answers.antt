-- The entry is added under the current authority.
use Rattle.text_entries.proofs.Said.{entry_added}
use Rattle.text_entries.proofs.line.add_directive.Goals as goal

pub returns-in-Ok : goal.returns-in-Ok
returns-in-Ok g c =
    entry_added _ _ _ c.in-Ok.ensures.adds
