use Rattle.krl_core.proofs.Common.{◌+◌, ◌-◌, ◌≡◌, ◌≤◌, Adds, arith, drop, held_with_open, length}
use Rattle.krl_core.proofs.Common.{length-drop, List, run_entries, Span, subst, sym, take, take_all}
use Rattle.krl_core.proofs.Common.{ℕ}
use Rattle.serial_set.specs.Near.{AreNear}
use Rattle.krl_core.proofs.StoredEntries.{stored_then, adds_first_more}
use Rattle.krl_core.proofs.field_store.FieldStore.add_spans.Goals as goal

-- the spans from a place on
from_place : (spans : List Span) (at : ℕ) → take (length spans - at) (drop at spans) ≡ drop at spans
from_place spans at = take_all (length spans - at) (drop at spans) (omega (arith, length-drop at spans))

pub add_near-requires-clause-near : goal.add_near-requires-clause-near
add_near-requires-clause-near g c =
    let n = c.count_near.result in
    let at = c.loop-at.at in
    let spans = c.args.spans.now in
    let same : at + n - at ≡ n = omega arith in
    subst (λ k. AreNear (take k (drop at spans))) (sym same) (subst (λ l. AreNear (take n l)) (from_place spans at) c.count_near.ensures.near)

pub returns-in_err-add_near-clause-stored : goal.returns-in_err-add_near-clause-stored
returns-in_err-add_near-clause-stored g c =
    stored_then c.args.self.now c.loop-at.self c.add_near.new.self c.loop-at.invariant.adds.stored_is c.in_err-add_near.ensures.stored

pub loop-at-preserved : goal.loop-at-preserved
loop-at-preserved g c =
    let n = c.count_near.result in
    let at = c.loop-at.at in
    let spans = c.args.spans.now in
    let mid = c.loop-at.self in
    let new = c.add_near.new.self in
    let same : at + n - at ≡ n = omega arith in
    let within = subst (λ l. n ≤ length l) (from_place spans at) c.count_near.ensures.within in
    record {
      within = omega (arith, within, length-drop at spans);
      adds = adds_first_more c.args.self.now mid new spans at n within c.loop-at.invariant.adds
          (subst (λ k. Adds mid (run_entries mid.authority (take k (drop at spans))) new) same c.in_ok-add_near.ensures.adds)
          (subst (λ k. held_with_open new ≤ held_with_open mid + length (take k (drop at spans))) same c.in_ok-add_near.ensures.held) c.in_ok-add_near.ensures.stored;
    }
