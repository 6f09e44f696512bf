-- The skipped bytes are before the bytes that are left, and the rest of the row is still to come.
use Rattle.std.proofs.Common.{◌≡◌, ℕ, List, ◌++◌, drop}
use Rattle.ssh_wire.specs.Wire.{IsBytes}
use Rattle.key_text.specs.ContainerReading.{passed_at}
use Rattle.key_text.proofs.SecretRows.{in_all}
use Rattle.key_text.proofs.container.secrets.pass_over.Given as goal

abbrev pub invariant-loop-spelling : goal.invariant-loop-spelling
invariant-loop-spelling l = (read : List ℕ) × (l.bytes ≡ read ++ l.cursor) × IsBytes l.cursor × (passed_at l.row l.bytes ≡ in_all read (passed_at (drop l.spelling-index l.row) l.cursor))
