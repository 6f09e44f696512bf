-- A fingerprint is longer than its digest.
use Rattle.std.proofs.Common.{arith}
use Rattle.key_text.proofs.FingerprintLaws.{fingerprint_found}
use Rattle.key_text.proofs.Sizes.{fingerprint_room}
use Rattle.krl_spec.proofs.keys.read_hash.Goals as goal

pub returns-in-Ok-clause-room : goal.returns-in-Ok-clause-room
returns-in-Ok-clause-room c = fingerprint_room _ _ (fingerprint_found c.args.text.now _ (λ i. omega (arith, c.type_inv.text i)) c.in-Ok.ensures.exact)
