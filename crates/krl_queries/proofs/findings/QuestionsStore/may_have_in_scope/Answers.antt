use Rattle.krl_queries.proofs.findings.QuestionsStore.may_have_in_scope.Goals as goal

pub returns : goal.returns
returns g c = rw (← c.self.view_is) c.may_have.ensures
