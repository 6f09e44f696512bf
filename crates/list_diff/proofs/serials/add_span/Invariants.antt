-- The lost numbers before the next one are added, and the others are left.
use Rattle.list_diff.proofs.Common.{◌<◌, ◌≡◌, ◌≤◌, LostBetween, LostFrom, SerialWith}
use Rattle.list_diff.proofs.Gains.{Owes}
use Rattle.list_diff.proofs.Gaps.{numbers_left}
use Rattle.std.specs.Prelude.{IfSome}
use Rattle.list_diff.proofs.serials.add_span.Given as goal

abbrev pub invariant-loop-next : goal.invariant-loop-next
invariant-loop-next g l = record {
  same : l.others ≡ l.initial.others;
  range : IfSome l.next (λ next. (0 < next) × (next ≤ l.span.hi));
  owes : Owes l.initial.gone (SerialWith l.authority (LostBetween l.span.lo l.span.hi l.initial.others)) l.gone (SerialWith l.authority (LostFrom l.next l.span.hi l.initial.others));
}

abbrev pub decreases-loop-next : goal.decreases-loop-next
decreases-loop-next g l = numbers_left l.next l.span.hi
