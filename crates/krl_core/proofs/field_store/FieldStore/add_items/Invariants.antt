use Rattle.krl_core.proofs.Common.{◌≡◌, item_entry, map}
use Rattle.krl_core.proofs.GainedEntries.{IsGained}
use Rattle.krl_core.proofs.field_store.FieldStore.add_items.Given as goal

-- the items so far were added, and the others are left
abbrev pub invariant-loop-item : goal.invariant-loop-item
invariant-loop-item g l = record {
  gained : IsGained (map (item_entry l.kind l.fn.self.authority)) l.fn.items l.item-iterator l.fn.self l.self;
  authority : l.self.authority ≡ l.fn.self.authority;
}
