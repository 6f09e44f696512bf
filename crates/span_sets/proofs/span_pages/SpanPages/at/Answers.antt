use Rattle.span_sets.proofs.Common.{arith, chunks_held, IsChunkFrom, subst}
use Rattle.span_sets.proofs.SetChunks.{at_none, at_past, at_some}
use Rattle.span_sets.proofs.span_pages.SpanPages.at.Goals as goal

pub returns-in-Some : goal.returns-in-Some
returns-in-Some c =
    let is = subst (IsChunkFrom (chunks_held c.args.self.now) c.args.number) c.in-Some.is c.requires in
    let lo = c.lo.ensures in
    let within = c.if-lo-number.true in
    at_some _ is.0 c.in-Some.chunk is.1.0 c.args.number c.args.self.now.order is.1.1.0 (omega arith) is.1.1.2

pub returns-in_default : goal.returns-in_default
returns-in_default c =
    let is = subst (IsChunkFrom (chunks_held c.args.self.now) c.args.number) c.in-Some.is c.requires in
    let lo = c.lo.ensures in
    let past = c.if-lo-number.false in
    at_past _ is.0 c.in-Some.chunk is.1.0 c.args.number c.args.self.now.order is.1.1.0 is.1.1.1 (omega arith)

pub returns-in_default-2 : goal.returns-in_default-2
returns-in_default-2 c = at_none _ c.args.number (subst (IsChunkFrom (chunks_held c.args.self.now) c.args.number) c.in_default.is c.requires)
