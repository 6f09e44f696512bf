use Rattle.text_laws.proofs.Printed.{printed_items, printed_whole}
use Rattle.text_laws.proofs.laws.printed_text_is_text_of_lists.Goals as goal

pub returns-clause-items : goal.returns-clause-items
returns-clause-items c names lists = printed_items names lists

pub returns-clause-taken : goal.returns-clause-taken
returns-clause-taken c names lists before after failed fault ends = printed_whole names lists before after failed fault ends
