use Rattle.krl_queries.proofs.questions.Questions.asks.Goals as goal

pub returns-in-Sha1-clause-asked : goal.returns-in-Sha1-clause-asked
returns-in-Sha1-clause-asked g c = rw (c.in-Sha1.is, ← c.self.view_is, ← c.array_of.ensures) c.asks_hash.ensures.asked

pub returns-in-Sha256-clause-asked : goal.returns-in-Sha256-clause-asked
returns-in-Sha256-clause-asked g c = rw (c.in-Sha256.is, ← c.self.view_is, ← c.array_of-in-Sha256.ensures) c.asks_hash-in-Sha256.ensures.asked
