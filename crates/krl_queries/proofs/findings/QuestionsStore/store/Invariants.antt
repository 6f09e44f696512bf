use Rattle.krl_queries.proofs.AddedFindings.{PutsFirst}
use Rattle.krl_queries.proofs.findings.QuestionsStore.store.Given as goal

-- the spans so far were put
abbrev pub invariant-loop-span : goal.invariant-loop-span
invariant-loop-span g l = PutsFirst l.authority l.initial.self l.near l.span-index l.self
