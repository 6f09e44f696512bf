use Rattle.krl_plan.proofs.Common.{◌*◌, ◌≡◌, ◌≤◌, ap, arith, cost, drop, IsLeastPlan, Knows, length}
use Rattle.krl_plan.proofs.Common.{length_push, since, subst, sym, take, ℕ}
use Rattle.std.proofs.lemmas.Result.{IfOk-weaker}
use Rattle.krl_plan.proofs.Ranges.{cheapest_small}
use Rattle.krl_plan.proofs.CopiedRuns.{last_batch}
use Rattle.krl_plan.proofs.planner.least_plan.Goals as goal

pub loop-number-init : goal.loop-number-init
loop-number-init g c =
    let starts = c.in_ok-starts.ensures in
    record { begin = starts.begin; known = subst (Knows c.new-table.result) (sym starts.all) c.new-table.ensures }

pub loop-number-smaller : goal.loop-number-smaller
loop-number-smaller g c = omega (arith, ap length c.in-Some.ensures.items, length_push c.pop.new.self.items c.in-Some.number)

pub add_all-requires : goal.add_all-requires
add_all-requires g c =
    let spans = g.S.Spans.spans c.args.set.now in
    let starts = c.loop-number.starts.items in
    let batch : c.deref.result.now ≡ take 1024 (since c.in-Some.number spans) = rw c.deref.ensures.value c.in_ok-copy_batch.ensures in
    let last = last_batch spans c.deref.result.now starts c.pop.new.self.items c.in-Some.number (g.met.S.Spans.law c.args.set.now).0 c.in-Some.ensures.items c.loop-number.invariant.begin batch in
    (drop (1024 * length starts) spans, (last.1, c.loop-number.invariant.known))

pub loop-number-preserved : goal.loop-number-preserved
loop-number-preserved g c =
    let spans = g.S.Spans.spans c.args.set.now in
    let starts = c.loop-number.starts.items in
    let batch : c.deref.result.now ≡ take 1024 (since c.in-Some.number spans) = rw c.deref.ensures.value c.in_ok-copy_batch.ensures in
    let last = last_batch spans c.deref.result.now starts c.pop.new.self.items c.in-Some.number (g.met.S.Spans.law c.args.set.now).0 c.in-Some.ensures.items c.loop-number.invariant.begin batch in
    record {
      begin = last.0;
      known = subst (Knows c.add_all.new.self) last.2 (c.in_ok-add_all.ensures (drop (1024 * length starts) spans) last.1 c.loop-number.invariant.known);
    }

pub returns-clause-least : goal.returns-clause-least
returns-clause-least g c =
    let spans = g.S.Spans.spans c.args.set.now in
    let none : 1024 * length c.loop-number.starts.items ≡ 0 = omega (arith, c.in_default.ensures.cases) in
    c.plan.ensures spans (subst (λ (n : ℕ). Knows c.loop-number.table (drop n spans)) none c.loop-number.invariant.known)

pub returns-clause-small : goal.returns-clause-small
returns-clause-small g c =
    let spans = g.S.Spans.spans c.args.set.now in
    IfOk-weaker c.plan.result (λ plan. IsLeastPlan spans plan.items) (λ plan. cost spans plan.items ≤ 21 * length spans)
    (λ plan chosen. cheapest_small spans plan.items chosen.is_cheapest) (returns-clause-least g c)
