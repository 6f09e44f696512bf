use Rattle.std.proofs.Common.{rules}
use Rattle.key_text.specs.Fingerprints.{unpadded}
use Rattle.key_text.proofs.fingerprints.unpadded.Goals as goal

pub returns : goal.returns
unfolding unpadded
returns c = search rules steps 300000
