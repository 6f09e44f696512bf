use Rattle.krl_queries.proofs.Common.{◌%◌, ◌-◌, ◌≡◌, ◌≤◌, Covers, length, NoneHolds}
use Rattle.krl_queries.proofs.topics.count_others.Given as goal

-- none of the serial numbers so far is a member
abbrev pub invariant-loop-at : goal.invariant-loop-at
invariant-loop-at g l = record {
  within : l.at ≤ length l.serials;
  whole : l.at % 8 ≡ 0;
  none : NoneHolds (Covers (g.S.Spans.spans l.set)) l.serials l.at;
}

abbrev pub decreases-loop-at : goal.decreases-loop-at
decreases-loop-at g l = length l.serials - l.at
