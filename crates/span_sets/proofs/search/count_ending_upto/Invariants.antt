use Rattle.std.proofs.Common.{length, ◌-◌, ◌≤◌, take, All}
use Rattle.span_sets.proofs.search.count_ending_upto.Given as goal

abbrev pub invariant-loop-count : goal.invariant-loop-count
invariant-loop-count g l = record {
  within : l.count ≤ length l.items;
  upto : All (λ t. g.T.HasEnd.end t ≤ l.number) (take l.count l.items);
}

abbrev pub decreases-loop-count : goal.decreases-loop-count
decreases-loop-count g l = length l.items - l.count
