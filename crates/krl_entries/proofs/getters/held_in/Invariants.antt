use Rattle.std.proofs.Common.{◌≡◌, ◌+◌, ◌*◌, ◌≤◌, ◌<◌, ◌^◌, length, sum_by}
use Rattle.krl_entries.proofs.getters.held_in.Given as goal

abbrev pub invariant-loop-left : goal.invariant-loop-left
invariant-loop-left g l = record {
  rest : l.left ≡ length l.iter;
  few : length l.sections < 2 ^ 64;
  sum : l.total + sum_by (λ section. length section.spans) l.iter ≡ sum_by (λ section. length section.spans) l.sections;
  bound : l.total + l.left * 2 ^ 64 ≤ length l.sections * 2 ^ 64;
}

abbrev pub decreases-loop-left : goal.decreases-loop-left
decreases-loop-left g l = l.left
