use Rattle.krl_core.proofs.Common.{arith, inr, on_ok_weaker, refl, run_entries, subst, sym, ℕ}
use Rattle.krl_entries.specs.Revocations.{IsStoredAtMost}
use Rattle.krl_core.proofs.StoredEntries.{adds_all}
use Rattle.krl_core.proofs.field_store.FieldStore.add_near.Goals as goal

pub returns-clause-adds : goal.returns-clause-adds
returns-clause-adds g c =
    rw (← c.self.view_is) (on_ok_weaker c.store.result
    (λ means. adds_all _ _ (run_entries c.self.inside.authority.items c.args.near.now) (record { authority_is = refl; header_is = refl; bitmap_is = refl; scope_is = c.store.ensures.scope })
    (rw c.as_slice.ensures.value at means)) c.store.ensures.means)

pub returns-clause-stored : goal.returns-clause-stored
returns-clause-stored g c =
    let authority = c.self.inside.authority.items in
    let stored : (m : ℕ) → IsStoredAtMost authority (g.T.Store.contents c.self.inside.store) m → IsStoredAtMost authority (g.T.Store.contents c.store.new.self) m =
    λ m within. (let more = c.store.ensures.stored authority (inr (sym c.as_slice.ensures.value)) m in subst (IsStoredAtMost authority (g.T.Store.contents c.store.new.self)) (omega arith) (more within)) in
    rw (← c.self.view_is) (record { stored_is = stored; scope_is = c.store.ensures.within; same_scope = c.store.ensures.scope })
