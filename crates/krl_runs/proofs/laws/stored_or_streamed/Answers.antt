-- Both print the answers of the one spelling of the list.
use Rattle.krl_runs.proofs.Common.{◌∙◌, ap, entries_of, is_revoked, revokes, sym}
use Rattle.krl_entries.proofs.ReasonTests.{meant_tested}
use Rattle.krl_runs.proofs.AgreeingTests.{files_same}
use Rattle.krl_runs.proofs.laws.stored_or_streamed.Goals as goal

pub returns : goal.returns
returns c text known entries files held passed =
    let sections = (c.one_spelling.ensures text known.header passed.header held.list.sections passed.sections held.list.spelled passed.spelled).1 in
    let same = ap entries_of sections ∙ sym passed.entries_are in
    files_same (revokes known.contents) (is_revoked entries) (meant_tested known.contents entries (rw same at held.list.holds.means)) files
