use Rattle.krl_queries.proofs.Common.{HashesOf, refl, subst}
use Rattle.krl_queries.proofs.KeyHashes.{hashed_has}
use Rattle.krl_queries.proofs.key_hashes.asks_hash.Goals as goal

pub returns-then-made-clause-asked : goal.returns-then-made-clause-asked
returns-then-made-clause-asked g c =
    hashed_has g.H.KeyHash.hash c.args.topics.now.keys c.args.hashes.now.keys c.args.hash.now c.contains.result (c.requires c.if-made.true) c.contains.ensures

pub returns-clause-hashed : goal.returns-clause-hashed
returns-clause-hashed g c = λ _.
    subst (λ keys. HashesOf g.H.KeyHash.hash keys c.hash_keys.new.hashes.keys) c.iter_keys.ensures c.in_ok-hash_keys.ensures

pub returns-clause-asked : goal.returns-clause-asked
returns-clause-asked g c =
    hashed_has g.H.KeyHash.hash c.args.topics.now.keys c.hash_keys.new.hashes.keys c.args.hash.now c.contains-2.result (returns-clause-hashed g c refl) c.contains-2.ensures
