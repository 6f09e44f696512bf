-- An item that is held adds nothing, and any other one is added. The later ones are left.
use Rattle.list_diff.proofs.Common.{[], ◌∷◌, ◌∙◌, IsItem, item_entry, sym}
use Rattle.list_diff.proofs.Differences.{item_kept, item_lost, lost_joined, lost_none}
use Rattle.list_diff.proofs.Gains.{owes_all, owes_less, owes_none}
use Rattle.std.proofs.lemmas.Bool.{false≢true}
use Rattle.std.proofs.lemmas.List.Elements.{All-head, All-tail}
use Rattle.list_diff.proofs.items.add_items.Goals as goal

pub loop-item-init : goal.loop-item-init
loop-item-init g c = rw c.into_iter-item-iterator.ensures.into_iter_gives (record { size = c.requires; owes = owes_all _ _ })

pub has_item-requires : goal.has_item-requires
has_item-requires g c = All-head (IsItem c.args.kind) c.in-Some.item.now _ (rw c.in-Some.ensures.steps at c.loop-item.invariant.size)

pub add-requires : goal.add-requires
add-requires g c = All-head (IsItem c.args.kind) c.in-Some.item.now _ (rw c.in-Some.ensures.steps at c.loop-item.invariant.size)

pub loop-item-preserved : goal.loop-item-preserved
loop-item-preserved g c =
    let i = rw c.in-Some.ensures.steps at c.loop-item.invariant in
    let old = c.args.old.now in
    let kind = c.args.kind in
    let a = c.args.authority.now in
    let item = c.in-Some.item.now in
    record {
      size = All-tail (IsItem kind) item _ i.size;
      owes = owes_less _ _ _ _ _ _ _ i.owes (item_kept old c.loop-item.gone kind a item (c.has_item.ensures.0 c.if-not-has_item.false)) (lost_joined old (item_entry kind a item ∷ []) _);
    }

pub loop-item-preserved-in-Continue-1 : goal.loop-item-preserved-in-Continue-1
loop-item-preserved-in-Continue-1 g c =
    let i = rw c.in-Some.ensures.steps at c.loop-item.invariant in
    let old = c.args.old.now in
    let kind = c.args.kind in
    let a = c.args.authority.now in
    let item = c.in-Some.item.now in
    record {
      size = All-tail (IsItem kind) item _ i.size;
      owes = owes_less _ _ _ _ _ _ _ i.owes
          (item_lost old c.loop-item.gone c.add.new.self kind a item (λ held. false≢true (sym c.if-not-has_item.true ∙ c.has_item.ensures.1 held)) c.add.ensures.orderly c.in_ok-add.ensures.means)
          (lost_joined old (item_entry kind a item ∷ []) _);
    }

pub returns : goal.returns
returns g c = owes_none _ _ _ _ (rw c.in-None.ensures.steps.0 at c.loop-item.invariant.owes) (lost_none c.args.old.now)
