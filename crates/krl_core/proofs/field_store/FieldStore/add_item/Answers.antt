use Rattle.krl_core.proofs.Common.{arith, inr, on_ok_weaker, refl, sym}
use Rattle.krl_core.proofs.StoredEntries.{adds_all}
use Rattle.krl_core.proofs.field_store.FieldStore.add_item.Goals as goal

pub returns-clause-adds : goal.returns-clause-adds
returns-clause-adds g c =
    rw (← c.self.view_is) (on_ok_weaker c.store.result
    (λ means. adds_all _ _ _ (record { authority_is = refl; header_is = refl; bitmap_is = refl; scope_is = c.store.ensures.scope }) (rw c.as_slice.ensures.value at means)) c.store.ensures.means)

pub returns-clause-grows : goal.returns-clause-grows
returns-clause-grows g c =
    rw (← c.self.view_is) (record { held_is = omega (arith, c.store.ensures.held); stored_is = λ m. c.store.ensures.stored c.self.inside.authority.items (inr (sym c.as_slice.ensures.value)) m; scope_is = c.store.ensures.within; same_scope = c.store.ensures.scope })
