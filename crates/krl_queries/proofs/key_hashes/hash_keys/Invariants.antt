use Rattle.krl_queries.proofs.KeyHashes.{AreHashedSoFar}
use Rattle.krl_queries.proofs.key_hashes.hash_keys.Given as goal

-- the keys so far are hashed, and the others are left
abbrev pub invariant-loop-key : goal.invariant-loop-key
invariant-loop-key g l = AreHashedSoFar g.H.KeyHash.hash l.fn.keys l.hashes.keys l.key-iterator
