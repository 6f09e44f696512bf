use Rattle.krl_queries.proofs.FoundReasons.{answer_within}
use Rattle.krl_queries.proofs.questions.Questions.answer.Goals as goal

pub returns-clause-meant : goal.returns-clause-meant
returns-clause-meant g c =
    rw (← c.self.view_is) (answer_within c.self.inside.topics c.self.inside.found c.args.subject.now c.query.result (rw (← c.self.view_is) at c.requires) c.query.ensures.tested)
