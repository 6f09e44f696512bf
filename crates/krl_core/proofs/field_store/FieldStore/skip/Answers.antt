use Rattle.krl_core.proofs.Common.{◌∙◌, on_ok_weaker, refl, sym}
use Rattle.krl_core.proofs.SkippedBits.{skips_run}
use Rattle.krl_core.proofs.field_store.FieldStore.skip.Goals as goal

pub returns-in-Some-clause-skips : goal.returns-in-Some-clause-skips
returns-in-Some-clause-skips g c =
    rw (← c.self.view_is) (on_ok_weaker c.add_span.result
    (skips_run _ _ c.add_span.new.self c.args.count c.in-Some.run' (sym c.pending-run.ensures.value ∙ c.in-Some.is) refl refl refl refl c.skip.ensures) c.add_span.ensures.adds)

pub returns-in-Some-clause-stored : goal.returns-in-Some-clause-stored
returns-in-Some-clause-stored g c = rw (← c.self.view_is) (record { stored_is = c.add_span.ensures.stored.stored_is; scope_is = c.add_span.ensures.stored.scope_is; same_scope = c.add_span.ensures.stored.same_scope })
