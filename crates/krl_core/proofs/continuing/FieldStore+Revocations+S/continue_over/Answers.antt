-- The entries that were stored so far are stored again, before the open run.
use Rattle.krl_core.proofs.Common.{[], ◌∙◌, ap, FieldStore, List, refl, Scope, ℕ}
use Rattle.std.proofs.Common.{ap₂}
use Rattle.krl_core.proofs.ContinuedWalks.{continued_stores, no_comment}
use Rattle.krl_core.proofs.continuing.FieldStore+Revocations+S.continue_over.Goals as goal

pub returns-clause-stores : goal.returns-clause-stores
returns-clause-stores g c =
    let gains = c.in_ok-add_all.ensures.gains in
    let new = c.new-rest.ensures in
    rw (← c.self.view_is) (λ entries h.
    continued_stores _ c.add_all.new.self _ entries refl (gains.stores [] new.stores) (ap (λ b. b.pending) gains.bitmap_is ∙ new.in_step)
    (c.leave.ensures.contents ∙ ap (λ k. k.contents) c.rest.view_is) (c.leave.ensures.scope ∙ ap (λ k. k.scope) c.rest.view_is) refl refl h)

pub returns-clause-same : goal.returns-clause-same
returns-clause-same g c =
    let gains = c.in_ok-add_all.ensures.gains in
    let self = c.self.inside in
    let scope = c.leave.ensures.scope ∙ ap (λ k. k.scope) c.rest.view_is ∙ gains.scope_is ∙ c.new-rest.ensures.scope in
    let comment = ap (λ k. k.header.comment) c.rest.view_is ∙ ap (λ h. h.comment) gains.header_is ∙ ap (λ h. h.comment) c.new-rest.ensures.start.1
    ∙ no_comment c.new-rest.result.scope self.comment.items (rw c.new-rest.ensures.scope c.requires.narrower) in
    rw (← c.self.view_is) (ap₂ (λ (comment : List ℕ) (scope : Scope).
    let k : FieldStore = record {
      header = record { version = self.version; date = self.date; comment = comment };
      authority = self.authority.items;
      contents = g.T.Store.contents c.leave.new.self;
      scope = scope;
      bitmap = self.bitmap;
    } in k) (rw c.new-rest.ensures.scope at comment) scope)
