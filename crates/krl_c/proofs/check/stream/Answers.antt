-- The findings are those of the query, or the list's first fault is reported: borrowed bytes do not
-- fail.
use Rattle.krl_c.proofs.Common.{[], entries_of}
use Rattle.krl_c.proofs.AnswerMeaning.{first_of, of_list}
use Rattle.krl_c.proofs.check.stream.Goals as goal

pub returns-in-Ok-read-clause-found : goal.returns-in-Ok-read-clause-found
returns-in-Ok-read-clause-found c =
    let text = c.args.list.now in
    let read = rw c.in-Ok-read.is at c.read_on-read.ensures in
    let h = c.over.ensures.start text c.new.ensures.bytes in
    let list = (read.found text [] h).2 in
    (entries_of list.sections, of_list text _ _ list, list.holds.means)

pub returns-in-Err-clause-fault : goal.returns-in-Err-clause-fault
returns-in-Err-clause-fault c =
    let text = c.args.list.now in
    let read = rw c.in-Err.is at c.read_on-read.ensures in
    let h = c.over.ensures.start text c.new.ensures.bytes in
    first_of text c.in-Err.fault _ (read.fault text [] h)
