use Rattle.krl_queries.proofs.Common.{◌∙◌, ◌≡◌, arith, Asked, false≢true, inl, inr, IsStoredAtMost, List}
use Rattle.krl_queries.proofs.Common.{MeansMoreInScope, on_ok_weaker, run_entries, Some, Span}
use Rattle.krl_queries.proofs.Common.{subst, sym, take_all, ℕ}
use Rattle.krl_queries.proofs.AddedFindings.{next_span, puts_more}
use Rattle.krl_queries.proofs.AskedItems.{none_asked, within_asked}
use Rattle.krl_entries.specs.Named.{item_name}
use Rattle.krl_entries.proofs.AddedMeaning.{means_more_within, nothing_more_within}
use Rattle.krl_entries.specs.Scope.{IsTopic}
use Rattle.krl_types.specs.Item.{item_entry}
use Rattle.krl_queries.proofs.findings.QuestionsStore.store.Goals as goal

pub loop-span-preserved : goal.loop-span-preserved
loop-span-preserved g c =
    let near = c.in-Serials.near.now in
    let e = c.in_ok-store_span-in-Serials.ensures in
    puts_more _ _ c.loop-span.self c.store_span.new.self near c.loop-span.span-index _ c.loop-span.invariant (next_span near c.loop-span.span-index _ c.loop-span-test.true) e.means e.topics e.within e.held e.stored

pub returns-in_err-store_span-in-Serials-clause-stored : goal.returns-in_err-store_span-in-Serials-clause-stored
returns-in_err-store_span-in-Serials-clause-stored g c other under n s =
    let is : other ≡ c.args.authority.now = elim (rw c.in-Serials.is at under) [ inl key ↦ absurd key | inr same ↦ same ] in
    rw (c.in-Serials.is, is) (subst (λ (m : ℕ). IsStoredAtMost c.args.authority.now c.store_span.new.self.found m) (omega arith) (c.in_err-store_span-in-Serials.ensures.stored n (c.loop-span.invariant.stored_is n (rw is at s))))

pub returns-after-loop-span-clause-means : goal.returns-after-loop-span-clause-means
returns-after-loop-span-clause-means g c =
    let near = c.in-Serials.near.now in
    rw c.in-Serials.is (subst (λ (spans : List Span). MeansMoreInScope (Some c.args.self.now.topics) c.args.self.now.found c.loop-span.self.found (run_entries c.args.authority.now spans))
    (take_all c.loop-span.span-index near (omega arith)) c.loop-span.invariant.means)

pub returns-after-loop-span-clause-stored : goal.returns-after-loop-span-clause-stored
returns-after-loop-span-clause-stored g c other under n s =
    let is : other ≡ c.args.authority.now = elim (rw c.in-Serials.is at under) [ inl key ↦ absurd key | inr same ↦ same ] in
    rw (c.in-Serials.is, is) (subst (λ (m : ℕ). IsStoredAtMost c.args.authority.now c.loop-span.self.found m) (omega arith) (c.loop-span.invariant.stored_is n (rw is at s)))

pub returns-then-not-asked-clause-means : goal.returns-then-not-asked-clause-means
returns-then-not-asked-clause-means g c =
    let topics = c.args.self.now.topics in
    let kind = c.in-Item.kind in
    let item = c.in-Item.item.now in
    rw (c.in-Item.is, c.in_ok-asked-in-Item.ensures.same) (nothing_more_within (Some topics) c.args.self.now.found _
    (none_asked topics kind c.args.authority.now item (λ h. false≢true (sym c.if-not-asked.true ∙ c.in_ok-asked-in-Item.ensures.asked.1 h))))

pub returns-else-not-asked-clause-means : goal.returns-else-not-asked-clause-means
returns-else-not-asked-clause-means g c =
    rw (← c.in_ok-asked-in-Item.ensures.same, ← c.self.view_is) (on_ok_weaker c.add.result (means_more_within (Some c.self.inside.topics) _ _ _) c.add.ensures.means)

pub returns-else-not-asked-clause-within : goal.returns-else-not-asked-clause-within
returns-else-not-asked-clause-within g c =
    let e = c.add.ensures in
    let ask = c.in_ok-asked-in-Item.ensures in
    let kind = c.in-Item.kind in
    let item = c.in-Item.item.now in
    let asked = subst (λ (a : Asked). IsTopic a.topics (item_name kind c.args.authority.now item)) (sym (c.self.view_is ∙ ask.same)) (ask.asked.0 c.if-not-asked.false) in
    rw (← ask.same, ← c.self.view_is) (within_asked c.add.result c.self.inside.topics c.self.inside.found c.add.new.self kind c.args.authority.now item asked (rw c.in-Item.is at e.means) e.refused)

pub returns-else-not-asked-clause-stored : goal.returns-else-not-asked-clause-stored
returns-else-not-asked-clause-stored g c =
    rw (← c.in_ok-asked-in-Item.ensures.same, ← c.self.view_is) c.add.ensures.stored
