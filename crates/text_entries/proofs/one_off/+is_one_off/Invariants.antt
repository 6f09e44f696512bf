-- The spelling gets shorter.
use Rattle.std.proofs.Common.{length}
use Rattle.text_entries.proofs.one_off.+is_one_off.Given as goal

abbrev pub decreases-is_one_off : goal.decreases-is_one_off
decreases-is_one_off l = length l.left.now
