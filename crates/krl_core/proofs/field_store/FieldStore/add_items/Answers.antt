use Rattle.krl_core.proofs.Common.{[], ◌∙◌, ◌∷◌, Adds, IsItem, item_entry, List}
use Rattle.krl_core.proofs.Common.{map, refl, subst, ℕ}
use Rattle.std.proofs.lemmas.List.{map-append}
use Rattle.krl_core.proofs.GainedEntries.{err_says, gained_all, gained_more, gained_next, gained_none}
use Rattle.krl_core.proofs.GainedEntries.{gained_some, gains_added}
use Rattle.krl_core.proofs.field_store.FieldStore.add_items.Goals as goal

pub loop-item-init : goal.loop-item-init
loop-item-init g c = record {
  gained = rw c.into_iter-item-iterator.ensures.into_iter_gives (gained_none (map (item_entry c.args.kind c.args.self.now.authority)) c.args.items c.args.self.now refl);
  authority = refl;
}

pub add_item-requires : goal.add_item-requires
add_item-requires g c =
    gained_next (IsItem c.args.kind) (map (item_entry c.args.kind c.args.self.now.authority)) c.args.items c.next.new.self c.in-Some.item.now
    c.args.self.now c.loop-item.self c.requires (rw c.in-Some.ensures.steps at c.loop-item.invariant.gained)

pub loop-item-preserved : goal.loop-item-preserved
loop-item-preserved g c =
    let entries = map (item_entry c.args.kind c.args.self.now.authority) in
    let item = c.in-Some.item.now in
    let adds = subst (λ (a : List ℕ). Adds c.loop-item.self (item_entry c.args.kind a item ∷ []) c.add_item.new.self) c.loop-item.invariant.authority c.in_ok-add_item.ensures.adds in
    record {
      gained = gained_more entries c.args.items (item ∷ []) c.next.new.self c.args.self.now c.loop-item.self c.add_item.new.self
          (map-append (item_entry c.args.kind c.args.self.now.authority)) (rw c.in-Some.ensures.steps at c.loop-item.invariant.gained)
          (gains_added c.loop-item.self c.add_item.new.self (item_entry c.args.kind c.args.self.now.authority item ∷ []) adds c.in_ok-add_item.ensures.grows.scope_is);
      authority = adds.rest.authority_is ∙ c.loop-item.invariant.authority;
    }

pub returns-clause-gains : goal.returns-clause-gains
returns-clause-gains g c =
    gained_all (map (item_entry c.args.kind c.args.self.now.authority)) c.args.items c.args.self.now c.loop-item.self (rw c.in-None.ensures.steps.0 at c.loop-item.invariant.gained)

pub returns-in_err-add_item-clause-some : goal.returns-in_err-add_item-clause-some
returns-in_err-add_item-clause-some g c =
    err_says c.from_residual.result (gained_some (map (item_entry c.args.kind c.args.self.now.authority)) c.args.items c.next.new.self c.in-Some.item.now c.args.self.now c.loop-item.self
    (rw c.in-Some.ensures.steps at c.loop-item.invariant.gained))
