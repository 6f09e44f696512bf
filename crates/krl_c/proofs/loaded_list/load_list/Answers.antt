-- The list is read, and its names are checked, or its first fault is reported: borrowed bytes do not
-- fail.
use Rattle.krl_c.proofs.Common.{entries_of}
use Rattle.krl_c.proofs.AnswerMeaning.{compared, not_compared, of_list}
use Rattle.krl_c.proofs.loaded_list.load_list.Goals as goal

pub returns-in-None-clause-found : goal.returns-in-None-clause-found
returns-in-None-clause-found c =
    let text = c.args.list.now in
    let read = rw c.in-Ok.is at c.read_krl-read.ensures in
    let list = read.found text c.new.ensures.bytes in
    let is = of_list text _ _ list in
    let names = c.first_incomparable.ensures is.header is.sections is.spelled in
    (entries_of list.sections, compared text (entries_of list.sections) is c.first_incomparable.result names c.in-None.is, list.holds)

pub returns-in-Ok-clause-refused : goal.returns-in-Ok-clause-refused
returns-in-Ok-clause-refused c =
    let text = c.args.list.now in
    let read = rw c.in-Ok.is at c.read_krl-read.ensures in
    let list = read.found text c.new.ensures.bytes in
    let is = of_list text _ _ list in
    let names = c.first_incomparable.ensures is.header is.sections is.spelled in
    not_compared text (entries_of list.sections) is c.first_incomparable.result c.in-Some.why names c.in-Some.is
