-- The stored list may be sent to another thread, and so the handle may be too.
use Rattle.krl_c.proofs.Common.{block_ptr, Exit, full_share, hidden, leaves, lies_at, null_ptr, Ptr}
use Rattle.krl_c.proofs.Common.{unchanged, under}
use base.Shift.{Keyless}
use denote.Param.Send.{IsSend, Quiet, part_keyless, owning_send, struct_send, sendable}
use denote.Builtin.{RawPtr}
use denote.Struct.Struct.{exits_of}
use denote.Struct.Owning.{shape, fields, to}
use Rattle.krl_c.specs.contracts.handle.Krl.{the_row, the_type}
use Rattle.krl_c.proofs.stored.Stored.TheSendSync.{the_send}
use Rattle.krl_c.specs.contracts.stored.Stored.{the_row as K}

-- an exit that is hidden behind a part is as quiet as it was
still : {D X : Type 0} (part : D → X) (exit : Exit X) → Quiet exit → Quiet (hidden (under part exit))
still part unchanged quiet = λ whole last. tt
still part (leaves L l S s r) quiet = λ whole. quiet (part whole)

-- the memory at a pointer does not depend on a thread
no_key : (p : Ptr) (x : K.Denot) → Keyless (lies_at K full_share p x)
no_key (block_ptr b o) x = part_keyless K the_send full_share x b o
no_key null_ptr x = tt

pub send : IsSend the_row
send = let O = the_type in let ps : IsSend RawPtr = search sendable in
    owning_send O (ps, tt) (λ d. no_key d.at d.stored)
    (λ k. still (to O) (exits_of k (fields O)) ((struct_send (shape O) (ps, tt)).leaving k))
