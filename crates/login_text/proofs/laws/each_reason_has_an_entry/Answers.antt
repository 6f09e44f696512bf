use Rattle.krl_entries.specs.Reasons.{name_asked}
use Rattle.login_text.specs.Asked.{asked_by}
use Rattle.login_text.proofs.Fitting.{reason_named}
use Rattle.login_text.proofs.laws.each_reason_has_an_entry.Goals as goal

pub returns : goal.returns
returns c = λ entries login id reason. reason_named entries (name_asked reason (asked_by login id))
