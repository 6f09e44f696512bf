use Rattle.std.proofs.Common.{rules}
use Rattle.key_text.proofs.container.secrets.read_secrets.Goals as goal

pub returns-in-Ed25519 : goal.returns-in-Ed25519
returns-in-Ed25519 c = search rules steps 300000
