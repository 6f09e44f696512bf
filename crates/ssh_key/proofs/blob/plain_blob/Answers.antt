use Rattle.std.proofs.Common.{rules}
use Rattle.ssh_key.proofs.blob.plain_blob.Goals as goal

pub returns : goal.returns
returns c = search rules steps 300000
