-- The lost numbers of the pieces so far are added, and the others are left.
use Rattle.list_diff.proofs.Common.{◌≡◌, LostSerial, SerialWith, spans_in}
use Rattle.list_diff.proofs.Gains.{Owes}
use Rattle.serial_set.specs.Iteration.{left, steps}
use Rattle.list_diff.proofs.serials.add_serials.Given as goal

abbrev pub invariant-loop-next : goal.invariant-loop-next
invariant-loop-next g l =
    let spans = g.S.Spans.spans l.set in
    record {
      same : l.others ≡ spans_in g.S.Spans.spans l.other;
      owes : Owes l.initial.gone (SerialWith l.authority (LostSerial spans (spans_in g.S.Spans.spans l.other))) l.gone (SerialWith l.authority (LostSerial (left l.next spans) (spans_in g.S.Spans.spans l.other)));
    }

abbrev pub decreases-loop-next : goal.decreases-loop-next
decreases-loop-next g l = steps l.next (g.S.Spans.spans l.set)
