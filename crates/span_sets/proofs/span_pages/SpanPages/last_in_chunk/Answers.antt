use Rattle.span_sets.proofs.Common.{◌+◌, ◌∷◌, arith, cases_lt, chunks_held, Contains}
use Rattle.span_sets.proofs.Common.{Contains-append_right, hi_of, in_stretch, inl, inr, refl, subst}
use Rattle.span_sets.proofs.Common.{sym}
use Rattle.span_sets.proofs.SpanSides.{its_own}
use Rattle.span_sets.proofs.ChunkQueries.{asked}
use Rattle.span_sets.proofs.MemberIteration.{goes_in}
use Rattle.span_sets.proofs.OrderedChunks.{none_below}
use Rattle.span_sets.proofs.span_pages.SpanPages.last_in_chunk.Goals as goal

pub last_from-requires : goal.last_from-requires
last_from-requires c =
    let set = c.args.self.now in
    (asked (chunks_held set) c.in-Some.chunk c.args.member set.order c.in-Some.ensures).1 c.requires

pub unreachable-requires : goal.unreachable-requires
unreachable-requires c = none_below (chunks_held c.args.self.now) c.args.member c.in-None.ensures c.requires

pub returns-clause-on : goal.returns-clause-on
returns-clause-on c =
    let set = c.args.self.now in
    let e = c.in-Some.chunk in
    let g = c.last_from.ensures.on in
    let at = in_stretch e c.last_from.result (g.all c.last_from.result g.order (omega arith)) in
    goes_in (chunks_held set) e c.args.member c.last_from.result set.order c.in-Some.ensures at.1 g

pub returns-clause-last : goal.returns-clause-last
returns-clause-last c more =
    let set = c.args.self.now in
    let e = c.in-Some.chunk in
    let is = c.in-Some.ensures in
    let last = c.last_from.result in
    let g = c.last_from.ensures.on in
    let at = in_stretch e last (g.all last g.order (omega arith)) in
    elim (cases_lt last (hi_of e)) [
      | inl below ↦ absurd (c.last_from.ensures.last below ((its_own (chunks_held set) e c.args.member (last + 1) set.order is (omega (arith, at.0)) (omega arith)).1 more))
      | inr upto ↦ (
        e,
        (subst (λ chunks. Contains chunks e) (sym is.1.1.0) (Contains-append_right is.0 (e ∷ is.1.0) e (0, omega arith, refl)), omega (arith, at.1, upto)),
      )
    ]
