use Rattle.span_sets.proofs.Common.{◌+◌, ◌∙◌, ◌∷◌, ◌≡◌, ap, arith, chunks_held, drop, drop_more}
use Rattle.span_sets.proofs.Common.{hi_of, members_of, piece_of, subst, sym, Taken}
use Rattle.span_sets.proofs.TakenRuns.{Rest, rest_first, rest_on}
use Rattle.span_sets.proofs.span_pages.SpanPages.take_list.Goals as goal

pub take_chunk-requires : goal.take_chunk-requires
take_chunk-requires c =
    let set = c.args.self.now in
    let list = c.list_from-chunks.result.now in
    let e = c.index-chunks-at.result in
    let i = c.loop-at.at in
    let was = c.loop-at.invariant in
    let first : drop i list ≡ e ∷ drop (i + 1) list = drop_more list i e (omega arith) ∙ ap (λ t. t ∷ drop (i + 1) list) (sym c.index-chunks-at.is) in
    (was.0, (was.1.0, rest_first (chunks_held set) c.args.number was.0 e (drop (i + 1) list) set.order (subst (Rest (chunks_held set) c.args.number was.0) first was.1.1)))

pub loop-at-preserved : goal.loop-at-preserved
loop-at-preserved c =
    let set = c.args.self.now in
    let list = c.list_from-chunks.result.now in
    let e = c.index-chunks-at.result in
    let i = c.loop-at.at in
    let was = c.loop-at.invariant in
    let new = c.take_chunk.ensures in
    let first : drop i list ≡ e ∷ drop (i + 1) list = drop_more list i e (omega arith) ∙ ap (λ t. t ∷ drop (i + 1) list) (sym c.index-chunks-at.is) in (
      hi_of e + 1,
      (
        subst (λ n. Taken (members_of (chunks_held set)) c.args.number n (piece_of c.take_chunk.new.piece)) (new.1.1 c.if-not-take_chunk.false) new.1.0,
        rest_on (chunks_held set) c.args.number was.0 e (drop (i + 1) list) set.order (subst (Rest (chunks_held set) c.args.number was.0) first was.1.1),
      ),
    )
