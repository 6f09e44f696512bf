use Rattle.krl_entries.proofs.Sets.{set_puts}
use Rattle.krl_queries.proofs.KeyHashes.{all_hashed, none_hashed, one_hashed}
use Rattle.krl_queries.proofs.key_hashes.hash_keys.Goals as goal

pub loop-key-init : goal.loop-key-init
loop-key-init g c = none_hashed g.H.KeyHash.hash _ _ _ c.into_iter-key-iterator.ensures.into_iter_gives c.requires

pub loop-key-preserved : goal.loop-key-preserved
loop-key-preserved g c =
    let is = rw c.of.ensures at c.in_ok-insert.ensures.keys in
    one_hashed g.H.KeyHash.hash c.args.keys c.loop-key.hashes.keys c.insert.new.self.keys c.loop-key.key-iterator c.next.new.self c.in-Some.key.now c.in-Some.ensures.steps
    (set_puts (g.H.KeyHash.hash c.in-Some.key.now) c.loop-key.hashes.keys c.insert.new.self.keys is c.insert.ensures.ordered) c.loop-key.invariant

pub returns : goal.returns
returns g c = all_hashed g.H.KeyHash.hash c.args.keys c.loop-key.hashes.keys c.loop-key.key-iterator c.in-None.ensures.steps.0 c.loop-key.invariant
