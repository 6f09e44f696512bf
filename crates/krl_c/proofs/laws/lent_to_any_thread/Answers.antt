-- Many threads may read the stored list at the same time.
use Rattle.krl_c.proofs.Common.{block_of, block_ptr, count_of, ftrue, in_block, null_ptr, Ptr}
use base.Shift.{Keyless}
use Rattle.krl_c.proofs.stored.Stored.TheSendSync.{the_sync}
use Rattle.krl_c.proofs.laws.lent_to_any_thread.Goals as goal

-- that a pointer is not null does not depend on a thread
no_key : (p : Ptr) → Keyless (in_block p ftrue)
no_key (block_ptr b o) = tt
no_key null_ptr = tt

pub returns : goal.returns
returns c = λ at loan. (tt, (no_key at, the_sync.shared loan.stored (block_of at) (count_of at) loan.life))
