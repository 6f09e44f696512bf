use Rattle.text_run.proofs.Contents.{entries_where_said, notes_where_said}
use Rattle.text_run.proofs.laws.content_is_what_lines_say.Goals as goal

pub returns-clause-entries : goal.returns-clause-entries
returns-clause-entries c = entries_where_said

pub returns-clause-notes : goal.returns-clause-notes
returns-clause-notes c = notes_where_said
