use Rattle.std.proofs.Common.{arith, subst, ◌<◌, ◌≤◌, length, take, drop, All, leb-false, leb-true}
use Rattle.span_vec.proofs.SpanLookup.{meets_none, meets_past, meets_some}
use Rattle.span_vec.proofs.vector.SpanVecSpans.meets.Goals as goal

pub returns-then-at-len-clause-some : goal.returns-then-at-len-clause-some
returns-then-at-len-clause-some c = λ t.
    let set = c.args.self.now in
    let at = c.count_ending_before-at in
    let is = c.max.ensures in (
      c.max.result,
      (
        omega arith,
        leb-true _ _ t,
        meets_some set.items.items c.args.lo c.max.result at.result c.index.result.now set.runs (omega arith)
            (subst (λ l. All (λ t. c.args.lo ≤ t.hi) (drop at.result l)) c.deref.ensures.value at.ensures.rest) c.index.ensures is,
      ),
    )

pub returns-then-at-len-clause-none : goal.returns-then-at-len-clause-none
returns-then-at-len-clause-none c = λ off s low high n.
    let set = c.args.self.now in
    let at = c.count_ending_before-at.result in
    meets_none set.items.items c.args.lo c.args.hi s at c.index.result.now set.runs (omega arith)
    (subst (λ l. All (λ t. t.hi < c.args.lo) (take at l)) c.deref.ensures.value c.count_ending_before-at.ensures.before) c.index.ensures (omega (arith, leb-false _ _ off, c.max.ensures)) low high n

pub returns-else-at-len-clause-none : goal.returns-else-at-len-clause-none
returns-else-at-len-clause-none c = λ off s low high n.
    let set = c.args.self.now in
    let at = c.count_ending_before-at.result in
    let past : length set.items.items ≤ at = omega arith in
    meets_past set.items.items c.args.lo s at past (subst (λ l. All (λ t. t.hi < c.args.lo) (take at l)) c.deref.ensures.value c.count_ending_before-at.ensures.before) low n
