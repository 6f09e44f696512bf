-- The new walk has read the same fields, or an allocation failed for an entry that was stored.
use Rattle.krl_core.proofs.Common.{◌∙◌, all, ap, BitRuns, InStep, IsBounded, Scope, stored_header}
use Rattle.krl_core.proofs.Common.{subst, sym}
use Rattle.std.specs.Prelude.{◌≢◌}
use Rattle.krl_core.proofs.ContinuedWalks.{continued_bounded, continued_read, ran_out_later}
use Rattle.krl_core.proofs.reading.Walk+Revocations+S+R.continue_over.Goals.{In-Ok}
use Rattle.krl_core.proofs.reading.Walk+Revocations+S+R.continue_over.Given.{Over}
use Rattle.krl_core.proofs.reading.Walk+Revocations+S+R.continue_over.Goals as goal

bounded : (g : Over) (c : In-Ok g) → IsBounded c.self.inside.pull c.in-Ok.stored
bounded g c =
    let narrower = subst (λ (s : Scope). s ≢ all) (sym (ap (λ k. k.scope) c.in-Ok.ensures.same)) c.requires.narrower in
    continued_bounded c.self.inside.pull c.self.inside.stored c.in-Ok.stored c.self.invariant.bounded narrower c.in-Ok.ensures.within

pub returns-in-Ok-clause-reads : goal.returns-in-Ok-clause-reads
returns-in-Ok-clause-reads g c =
    let same = c.in-Ok.ensures.same in
    let scope = ap (λ k. k.scope) same in
    rw (← c.self.view_is) (λ text fields h. continued_read text fields _ _ h c.continue_over.ensures.all c.in-Ok.ensures.stores
    (ap (λ k. k.authority) same) (ap (λ k. k.header) same ∙ ap (λ (s : Scope). stored_header s c.self.inside.stored.header) (sym scope)))

pub returns-in-Ok-clause-bounds : goal.returns-in-Ok-clause-bounds
returns-in-Ok-clause-bounds g c = bounded g c

pub returns-in-Err-clause-refused : goal.returns-in-Err-clause-refused
returns-in-Err-clause-refused g c =
    rw (← c.self.view_is, c.into_inner.ensures.failed) (λ text fields h. ran_out_later text fields _ _ c.self.invariant.bounded h c.continue_over.ensures.all c.in-Err.ensures.some)

pub returns-in-Err-clause-failed : goal.returns-in-Err-clause-failed
returns-in-Err-clause-failed g c = rw (← c.self.view_is) (λ none. c.into_inner.ensures.failed ∙ c.self.invariant.works none)

pub invariant_of-result : goal.invariant_of-result
invariant_of-result g c =
    let reached = c.self.invariant in
    record {
      in_step = λ none. subst (λ (b : BitRuns). InStep c.self.inside.place b) (sym (ap (λ k. k.bitmap) c.in-Ok.ensures.same)) (reached.in_step none);
      pull_faultless = reached.pull_faultless;
      works = reached.works;
      ends = λ off. let e = reached.ends off in record { ended = off; may_end = e.may_end; at_end = e.at_end; faultless = e.faultless; works = e.works };
      bounded = bounded g c;
    }
