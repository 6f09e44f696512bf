use Rattle.text_laws.proofs.HeldTexts.{list_named_back}
use Rattle.text_laws.proofs.ShownLists.{can_be_shown}
use Rattle.text_laws.proofs.laws.shown_list_names_the_same.Goals as goal

pub returns-clause-shown : goal.returns-clause-shown
returns-clause-shown c list bytes entries fits names means whole = can_be_shown c.line_read_as_spelled.ensures.read bytes list entries fits names means whole

pub returns-clause-names : goal.returns-clause-names
returns-clause-names c given list bytes entries today are fits names means whole =
    list_named_back given are list entries today (can_be_shown c.line_read_as_spelled.ensures.read bytes list entries fits names means whole) means
