use Rattle.text_laws.proofs.HeldTexts.{lists_read_back}
use Rattle.text_laws.proofs.laws.shown_lists_read_back.Goals as goal

pub returns : goal.returns
returns c names lists are shown = lists_read_back names are lists shown
