use Rattle.ssh_key.proofs.TruncatedBlobs.{key_cut, public_cut}
use Rattle.ssh_key.proofs.laws.cut_key_is_short.Goals as goal

pub returns-clause-blob : goal.returns-clause-blob
returns-clause-blob c = key_cut

pub returns-clause-fields : goal.returns-clause-fields
returns-clause-fields c = public_cut
