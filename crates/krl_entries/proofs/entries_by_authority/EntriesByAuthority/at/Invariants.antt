use Rattle.std.proofs.Common.{◌≡◌, ◌<◌, length, slice_get}
use Rattle.krl_entries.proofs.entries_by_authority.EntriesByAuthority.at.Given as goal

abbrev pub invariant-loop-listed : goal.invariant-loop-listed
invariant-loop-listed g l = record {
  inside : l.left < length l.iter;
  same : slice_get l.iter l.left ≡ slice_get l.self l.index;
}

abbrev pub decreases-loop-listed : goal.decreases-loop-listed
decreases-loop-listed g l = length l.iter
