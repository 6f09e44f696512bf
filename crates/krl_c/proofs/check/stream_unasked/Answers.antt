-- The list was streamed to its end, or its first fault is reported: borrowed bytes do not fail.
use Rattle.krl_c.proofs.Common.{[], entries_of}
use Rattle.krl_c.proofs.AnswerMeaning.{first_of, of_list}
use Rattle.krl_c.proofs.check.stream_unasked.Goals.{in-Ok, in-Err}
use Rattle.krl_c.proofs.check.stream_unasked.Goals as goal

pub returns-clause-list : goal.returns-clause-list
returns-clause-list c =
    let text = c.args.list.now in
    let h = c.over.ensures.start text c.new.ensures.bytes in
    elim c.match-read.branch [
      | in-Ok w ↦ (let list = ((rw w.in-Ok.is at c.read_on-read.ensures).found text [] h).2 in rw w.result-is (entries_of list.sections, of_list text _ _ list))
      | in-Err w ↦ rw w.result-is tt
    ]

pub returns-clause-fault : goal.returns-clause-fault
returns-clause-fault c =
    let text = c.args.list.now in
    let h = c.over.ensures.start text c.new.ensures.bytes in
    elim c.match-read.branch [
      | in-Ok w ↦ rw w.result-is tt
      | in-Err w ↦ rw w.result-is (first_of text w.in-Err.fault _ ((rw w.in-Err.is at c.read_on-read.ensures).fault text [] h))
    ]
