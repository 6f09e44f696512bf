use Rattle.krl_core.proofs.Common.{◌∙◌, ap, on_ok_weaker, refl, sym}
use Rattle.krl_core.proofs.StoredEntries.{closes_run}
use Rattle.krl_core.proofs.field_store.FieldStore.close.Goals as goal

pub returns-in-Some-clause-closes : goal.returns-in-Some-clause-closes
returns-in-Some-clause-closes g c =
    rw (← c.self.view_is) (on_ok_weaker c.add_span.result
    (closes_run _ _ c.add_span.new.self c.in-Some.run' (sym c.pending.ensures.value ∙ c.in-Some.is) refl refl refl refl
    (ap (λ b. b.pending) c.new-self-inside.ensures)) c.add_span.ensures.adds)

pub returns-in-Some-clause-stored : goal.returns-in-Some-clause-stored
returns-in-Some-clause-stored g c =
    rw (← c.self.view_is) (record { stored_is = c.add_span.ensures.stored.stored_is; scope_is = c.add_span.ensures.stored.scope_is; same_scope = c.add_span.ensures.stored.same_scope })
