use Rattle.krl_core.proofs.Common.{[], ◌∙◌, ap, BitRuns, List, MeansInScope, nothing_in_scope, nothing_within}
use Rattle.krl_core.proofs.Common.{option_to_list, Revocations, run_entries, same_is, start, subst}
use Rattle.krl_core.proofs.Common.{sym, ℕ}
use Rattle.krl_core.proofs.StoredEntries.{stored_start}
use Rattle.krl_core.proofs.field_store.FieldStore.new.Goals as goal

pub returns-clause-stores : goal.returns-clause-stores
returns-clause-stores g c = record {
  closed = [];
  means = subst (λ (r : Revocations). MeansInScope (g.T.Store.scope c.leave.new.self) r []) (sym (c.leave.ensures.contents ∙ c.requires)) (nothing_within (g.T.Store.scope c.leave.new.self));
  same = same_is (run_entries c.new-2.result.items (option_to_list c.new-3.result.pending)) []
      (ap (λ (b : BitRuns). run_entries c.new-2.result.items (option_to_list b.pending)) c.new-3.ensures);
}

pub returns-clause-start : goal.returns-clause-start
returns-clause-start g c = (
  c.new-2.ensures.items,
  ap (λ (comment : List ℕ). record start.header { comment = comment }) c.new.ensures.items ∙ stored_start (g.T.Store.scope c.leave.new.self),
)

pub returns-clause-within : goal.returns-clause-within
returns-clause-within g c = rw (c.leave.ensures.contents, c.requires) (nothing_in_scope (g.T.Store.scope c.leave.new.self))
