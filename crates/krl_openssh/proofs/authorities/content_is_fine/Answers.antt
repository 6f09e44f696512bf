-- The key IDs of the content are checked.
use Rattle.krl_openssh.proofs.authorities.content_is_fine.Goals as goal

pub returns-in-KeyId : goal.returns-in-KeyId
returns-in-KeyId c = rw c.in-KeyId.is c.key_ids_are_whole.ensures
