-- The subject is that of a key or of a certificate.
use Rattle.ssh_cert.proofs.Sizes.{asked_room}
use Rattle.krl_spec.proofs.keys.ask.Goals as goal

pub returns-in-Ok-clause-room : goal.returns-in-Ok-clause-room
returns-in-Ok-clause-room c = asked_room _ _ c.in-Ok.ensures.found
