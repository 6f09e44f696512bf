use Rattle.std.proofs.Common.{◌≤◌, length}
use Rattle.krl_core.proofs.buffered.bits_out_of_scope.Given as goal

-- there are this many bytes, and the bitmap has as many left
abbrev pub invariant-halves : goal.invariant-halves
invariant-halves g l = record {
  there : l.count ≤ length l.bytes;
  within : l.count ≤ l.left;
}

abbrev pub decreases-halves : goal.decreases-halves
decreases-halves g l = l.count
