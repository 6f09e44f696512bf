-- The words about skipped names are those of their number.
use Rattle.audit_run.proofs.summary.push_names.Goals as goal

pub returns : goal.returns
returns c = rw c.skipped_words.ensures at c.put.ensures
