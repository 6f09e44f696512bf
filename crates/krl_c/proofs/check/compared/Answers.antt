-- A list that was read is accepted or refused by its names.
use Rattle.krl_c.proofs.AnswerMeaning.{compared, not_compared}
use Rattle.krl_c.proofs.check.compared.Goals as goal

pub returns-in-None-clause-found : goal.returns-in-None-clause-found
returns-in-None-clause-found c =
    let found = c.in-Ok.ensures.found in let is = found.1 in
    (found.0, compared c.args.list.now found.0 is c.first_incomparable.result (c.first_incomparable.ensures is.header is.sections is.spelled) c.in-None.is, found.2)

pub returns-in-Some-clause-refused : goal.returns-in-Some-clause-refused
returns-in-Some-clause-refused c =
    let found = c.in-Ok.ensures.found in let is = found.1 in
    not_compared c.args.list.now found.0 is c.first_incomparable.result c.in-Some.why (c.first_incomparable.ensures is.header is.sections is.spelled) c.in-Some.is
