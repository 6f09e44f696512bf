-- The authority is in force first. No run is open.
use Rattle.krl_core.proofs.Common.{[], ◌∙◌, ap, Gains, IdEntry, item_entry, List, map, OnOk}
use Rattle.krl_core.proofs.Common.{on_ok_weaker, refl, run_entries, subst, ℕ}
use Rattle.krl_core.proofs.GainedEntries.{gains_authority, gains_then}
use Rattle.krl_types.specs.declared.item_kind.ItemKind.TheVariants as kinds
use Rattle.krl_core.proofs.field_store.FieldStore.add_section.Goals as goal

pub add_items-requires : goal.add_items-requires
add_items-requires g c = λ i item at. refl

pub returns : goal.returns
returns g c =
    let old = c.args.self.now in
    let section = c.args.section.now in
    let one = c.set_authority.new.self in
    let two = c.add_set.new.self in
    let new = c.add_items.new.self in
    let set = c.in_ok-set_authority.ensures.set in
    let under = ap (λ k. k.authority) set ∙ c.authority.ensures in
    let serials = subst (λ (a : List ℕ). Gains one (run_entries a section.spans) two) under (rw c.spans.ensures at c.in_ok-add_set.ensures.gains) in
    let ids = subst (λ (a : List ℕ). OnOk c.add_items.result (Gains two (map (item_entry kinds.Id a) section.ids) new)) (c.in_ok-add_set.ensures.authority ∙ under) (rw c.iter_ids.ensures at c.add_items.ensures.gains) in
    let both = gains_then old one two [] (run_entries section.authority section.spans) (gains_authority old one c.authority.result.now c.requires set) serials in
    on_ok_weaker c.add_items.result (gains_then old two new (run_entries section.authority section.spans) (map (IdEntry section.authority) section.ids) both) ids
