-- The lost numbers of the spans so far are added, and the others are left.
use Rattle.list_diff.proofs.Common.{◌≡◌, drop, LostSerial, SerialWith}
use Rattle.list_diff.proofs.Gains.{Owes}
use Rattle.list_diff.proofs.serials.add_spans.Given as goal

abbrev pub invariant-loop-span : goal.invariant-loop-span
invariant-loop-span g l = record {
  same : l.others ≡ l.initial.others;
  owes : Owes l.initial.gone (SerialWith l.authority (LostSerial l.spans l.initial.others)) l.gone (SerialWith l.authority (LostSerial (drop l.span-index l.spans) l.initial.others));
}
