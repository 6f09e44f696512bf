use Rattle.span_sets.proofs.Common.{[], ◌++◌, ◌∙◌, ◌∷◌, ◌≡◌, ap, chunks_held, IsPiece, piece_of}
use Rattle.span_sets.proofs.Common.{runs_of, Span, subst, sym}
use Rattle.span_sets.proofs.TakenRuns.{first_alone, none_left}
use Rattle.span_sets.proofs.span_pages.SpanPages.take_first.Goals as goal

pub returns-in_default : goal.returns-in_default
returns-in_default c =
    let set = c.args.self.now in
    let es = chunks_held set in
    let none : piece_of c.args.piece.now ≡ [] = c.requires in
    subst (IsPiece (runs_of es) c.args.number) (sym none) (none_left es c.args.number set.order c.in_default.ensures)

pub returns : goal.returns
returns c =
    let set = c.args.self.now in
    let es = chunks_held set in
    let run : Span = record { lo = c.in-Some.lo; hi = c.run_end-hi.result } in
    let none : piece_of c.args.piece.now ≡ [] = c.requires in
    subst (IsPiece (runs_of es) c.args.number) (sym (c.push.ensures ∙ ap (λ l. l ++ run ∷ []) none))
    (first_alone es c.args.number c.in-Some.lo c.run_end-hi.result set.order c.in-Some.ensures c.run_end-hi.ensures.on c.run_end-hi.ensures.stops)
