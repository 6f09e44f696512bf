use Rattle.span_sets.proofs.Common.{arith, chunks_held, in_stretch}
use Rattle.span_sets.proofs.MemberIteration.{no_chunk, first_in, none_in}
use Rattle.span_sets.proofs.span_pages.SpanPages.first_or_next.Goals as goal

pub returns-in_default-clause-first : goal.returns-in_default-clause-first
returns-in_default-clause-first c = no_chunk (chunks_held c.args.self.now) c.args.number c.in_default.ensures

pub returns-in-Some-first_from-clause-first : goal.returns-in-Some-first_from-clause-first
returns-in-Some-first_from-clause-first c =
    let set = c.args.self.now in
    let e = c.in-Some.chunk in
    let f = c.in-Some-first_from.ensures in
    let at = in_stretch e c.in-Some-first_from.first f.1 in
    first_in (chunks_held set) e c.args.number c.in-Some-first_from.first set.order c.in-Some.ensures at.1 f

pub returns-in-Some-checked_add-clause-none : goal.returns-in-Some-checked_add-clause-none
returns-in-Some-checked_add-clause-none c s h l m =
    let set = c.args.self.now in
    none_in (chunks_held set) c.in-Some.chunk c.args.number s set.order c.in-Some.ensures c.in-None.ensures h (omega arith) m

pub returns-in-None-checked_add-clause-first : goal.returns-in-None-checked_add-clause-first
returns-in-None-checked_add-clause-first c s h m =
    let set = c.args.self.now in
    let fits = set.serials s m in
    none_in (chunks_held set) c.in-Some.chunk c.args.number s set.order c.in-Some.ensures c.in-None.ensures h (omega arith) m
