-- The lost items so far are added, and the others are left.
use Rattle.list_diff.proofs.Common.{All, IsItem, item_entry, Lost, map}
use Rattle.list_diff.proofs.Gains.{Owes}
use Rattle.list_diff.proofs.items.add_items.Given as goal

abbrev pub invariant-loop-item : goal.invariant-loop-item
invariant-loop-item g l = record {
  size : All (IsItem l.kind) l.item-iterator;
  owes : Owes l.initial.gone (Lost l.old (map (item_entry l.kind l.authority) l.fn.items)) l.gone (Lost l.old (map (item_entry l.kind l.authority) l.item-iterator));
}
