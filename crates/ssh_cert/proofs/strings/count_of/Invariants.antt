use Rattle.std.proofs.Common.{length}
use Rattle.ssh_cert.proofs.StringLists.{Counts}
use Rattle.ssh_cert.proofs.strings.count_of.Given as goal

-- the strings counted, and the bytes that are left
abbrev pub invariant-loop-left : goal.invariant-loop-left
invariant-loop-left l = Counts l.bytes l.left l.count

abbrev pub decreases-loop-left : goal.decreases-loop-left
decreases-loop-left l = length l.left
