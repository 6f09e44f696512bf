-- A key takes the room of its blob.
use Rattle.ssh_cert.proofs.Sizes.{read_room}
use Rattle.krl_runs.proofs.Bounds.{asks_key}
use Rattle.krl_runs.proofs.questions.ask_key.Goals as goal

pub returns-in_err-ask-in-Ok-clause-within : goal.returns-in_err-ask-in-Ok-clause-within
returns-in_err-ask-in-Ok-clause-within c =
    let asks = c.ask-in-Ok.ensures in
    asks_key _ c.in_ok-subject-in-Ok.field-0 _ _ (rw c.in_ok-subject-in-Ok.ensures (read_room _ _ c.in-Ok.ensures.found)) asks.serials asks.keys asks.stored

pub returns-in_ok-ask-in-Ok-clause-within : goal.returns-in_ok-ask-in-Ok-clause-within
returns-in_ok-ask-in-Ok-clause-within c =
    let asks = c.ask-in-Ok.ensures in
    asks_key _ c.in_ok-subject-in-Ok.field-0 _ _ (rw c.in_ok-subject-in-Ok.ensures (read_room _ _ c.in-Ok.ensures.found)) asks.serials asks.keys asks.stored
