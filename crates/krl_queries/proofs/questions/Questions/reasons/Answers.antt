-- The findings give the reasons of the entries.
use Rattle.krl_queries.proofs.FoundReasons.{reasons_within}
use Rattle.krl_queries.proofs.questions.Questions.reasons.Goals as goal

pub returns-clause-tested : goal.returns-clause-tested
returns-clause-tested g c = rw (← c.self.view_is) c.reasons.ensures.tested

pub returns-clause-meant : goal.returns-clause-meant
returns-clause-meant g c =
    rw (← c.self.view_is) (reasons_within c.self.inside.topics c.self.inside.found c.args.subject.now c.reasons.result (rw (← c.self.view_is) at c.requires) c.reasons.ensures.tested)
