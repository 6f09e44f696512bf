use Rattle.krl_plan.proofs.Common.{◌<◌, ◌∙◌, ◌≡◌, arith, cases_lt, Forgets, get_or}
use Rattle.krl_plan.proofs.Common.{get_or-set_other, get_or-set_same, get_or_default, inl, inr}
use Rattle.krl_plan.proofs.Common.{length, MonotonicQueue, set, subst, sym}
use Rattle.krl_plan.proofs.bitmaps.forget_past.Goals as goal

pub loop-i-preserved : goal.loop-i-preserved
loop-i-preserved c =
    let old = c.args.queues.now in
    let queues = c.loop-i.queues in
    let i = c.loop-i.i in
    let new = c.forget_past.new.self in
    let was = c.index-queues-i.result in
    let same : length queues ≡ length old = omega arith in
    let within : i < length queues = omega arith in
    record {
      done = λ k d lt le. elim (cases_lt k i) [
        | inl before ↦
            let at : get_or (set queues i new) k d ≡ get_or queues k d = get_or-set_other queues i k new d (omega arith) in
            subst (λ (w : MonotonicQueue). Forgets c.args.limit (get_or old k d).candidates.items w.candidates.items) (sym at) (c.loop-i.invariant.done k d before le)
        | inr past ↦
            let here : k ≡ i = omega arith in
            let at : get_or (set queues i new) i d ≡ new = get_or-set_same queues i new d within in
            let from : get_or old i d ≡ get_or queues i was = sym (c.loop-i.invariant.unchanged i d (omega arith)) ∙ get_or_default queues i d was within in
            let one : Forgets c.args.limit (get_or old i d).candidates.items new.candidates.items = subst (λ (w : MonotonicQueue). Forgets c.args.limit w.candidates.items new.candidates.items) (sym from) c.forget_past.ensures in
            rw here (subst (λ (w : MonotonicQueue). Forgets c.args.limit (get_or old i d).candidates.items w.candidates.items) (sym at) one)
      ];
      unchanged = λ k d le. get_or-set_other queues i k new d (omega arith) ∙ c.loop-i.invariant.unchanged k d (omega arith);
    }
