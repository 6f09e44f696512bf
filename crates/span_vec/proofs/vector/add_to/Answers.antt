use Rattle.std.proofs.Common.{arith, subst, sym, ◌+◌, ◌-◌, ◌<◌, ◌≤◌, take, drop, All}
use Rattle.span_vec.proofs.MergedSpans.{added_joined, added_apart}
use Rattle.span_vec.proofs.vector.add_to.Goals as goal

pub returns-then-first-end-clause-runs : goal.returns-then-first-end-clause-runs
returns-then-first-end-clause-runs c =
    let first = c.count_ending_before-first in
    let end = c.count_beginning_by-end in
    let lo = c.args.lo in
    let hi = c.args.hi in
    added_joined c.args.items.now.items c.join.new.items.items lo hi first.result end.result c.index.result.now c.index-then-first-end.result.now c.if-first-end.true (omega arith)
    c.requires.runs c.requires.ordered
    (subst (λ l. All (λ t. t.hi < lo - 1) (take first.result l)) c.deref.ensures.value first.ensures.before)
    (subst (λ l. All (λ t. lo - 1 ≤ t.hi) (drop first.result l)) c.deref.ensures.value first.ensures.rest)
    (subst (λ l. All (λ t. t.lo ≤ hi + 1) (take end.result l)) c.deref-2.ensures.value end.ensures.by)
    (subst (λ l. All (λ t. hi + 1 < t.lo) (drop end.result l)) c.deref-2.ensures.value end.ensures.rest)
    c.index.ensures c.index-then-first-end.ensures (rw (sym c.min-lo.ensures, sym c.max-hi.ensures) c.join.ensures.items)

pub returns-clause-runs : goal.returns-clause-runs
returns-clause-runs c =
    let first = c.count_ending_before-first in
    let end = c.count_beginning_by-end in
    let lo = c.args.lo in
    let hi = c.args.hi in
    added_apart c.args.items.now.items c.insert.new.self.items lo hi first.result end.result c.if-first-end.false c.requires.runs c.requires.ordered
    (subst (λ l. All (λ t. t.hi < lo - 1) (take first.result l)) c.deref.ensures.value first.ensures.before)
    (subst (λ l. All (λ t. hi + 1 < t.lo) (drop end.result l)) c.deref-2.ensures.value end.ensures.rest)
    c.in_ok-insert.ensures.items
