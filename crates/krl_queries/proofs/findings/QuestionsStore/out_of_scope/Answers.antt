use Rattle.krl_queries.proofs.findings.QuestionsStore.out_of_scope.Goals as goal

pub returns-clause-out_of_scope : goal.returns-clause-out_of_scope
returns-clause-out_of_scope g c = rw (← c.self.view_is) c.count_skipped.ensures.none
