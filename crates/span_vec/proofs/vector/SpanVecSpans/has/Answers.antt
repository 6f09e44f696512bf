use Rattle.std.proofs.Common.{arith, subst, ◌<◌, ◌≤◌, length, take, drop, All, leb-true, le-leb}
use Rattle.std.proofs.Common.{ltb-true}
use Rattle.span_vec.proofs.SpanLookup.{asked_at, asked_past}
use Rattle.span_vec.proofs.vector.SpanVecSpans.has.Goals as goal

pub returns-then-at-len : goal.returns-then-at-len
returns-then-at-len c =
    let set = c.args.self.now in
    let same = c.deref.ensures.value in
    let at = c.count_ending_before-at.result in
    let asked = asked_at set.items.items c.args.serial at c.index.result.now set.runs (omega arith)
    (subst (λ l. All (λ t. t.hi < c.args.serial) (take at l)) same c.count_ending_before-at.ensures.before)
    (subst (λ l. All (λ t. c.args.serial ≤ t.hi) (drop at l)) same c.count_ending_before-at.ensures.rest) c.index.ensures in
    (λ t. asked.0 (leb-true _ _ t), λ n. le-leb _ _ (asked.1 n))

pub returns-else-at-len : goal.returns-else-at-len
returns-else-at-len c =
    let set = c.args.self.now in
    let at = c.count_ending_before-at.result in
    let past : length set.items.items ≤ at = omega arith in (
      λ t. absurd (omega (arith, ltb-true _ _ t)),
      λ n. absurd (asked_past set.items.items c.args.serial at past
          (subst (λ l. All (λ t. t.hi < c.args.serial) (take at l)) c.deref.ensures.value c.count_ending_before-at.ensures.before) n),
    )
