-- The whole of a text is left, or the fault of the file.
use Rattle.std.proofs.Common.{arith}
use Rattle.run_faults.proofs.file_keys.keys_of.Goals as goal
use Rattle.run_faults.proofs.file_keys.keys_of.Goals.{in-Ok, in-Err}

pub returns-clause-room : goal.returns-clause-room
returns-clause-room c = elim c.match-file.branch [
  | in-Ok w ↦ rw (w.left-is, ← c.file.view_is, w.in-Ok.is, ← w.as_slice.ensures) (w.text_left-left.ensures.size _)
  | in-Err w ↦ rw w.left-is (omega arith)
]
