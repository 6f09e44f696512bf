use Rattle.span_sets.proofs.Common.{◌∙◌, ◌≡◌, chunks_held, length, piece_of, runs_of, since, subst}
use Rattle.span_sets.proofs.Common.{sym, take}
use Rattle.span_sets.proofs.TakenRuns.{all_but_last, all_whole}
use Rattle.span_sets.proofs.span_pages.SpanPages.take_whole.Goals as goal

pub returns-then-not-has_after : goal.returns-then-not-has_after
returns-then-not-has_after c =
    let set = c.args.self.now in
    let es = chunks_held set in
    let taken = c.take_list.ensures in
    let was = c.in-Some.ensures in
    subst (λ l. l ≡ take (length l) (since c.args.number (runs_of es))) (was ∙ sym c.push.ensures)
    (all_whole es c.args.number taken.0 (piece_of c.take_list.new.piece) (piece_of c.pop.new.self) c.in-Some.last set.order taken.1 was (λ m. let yes = c.has_after.ensures.1 m in cc))

pub returns-else-not-has_after : goal.returns-else-not-has_after
returns-else-not-has_after c =
    let set = c.args.self.now in
    let taken = c.take_list.ensures in
    all_but_last (chunks_held set) c.args.number taken.0 (piece_of c.take_list.new.piece) (piece_of c.pop.new.self) c.in-Some.last set.order taken.1 c.in-Some.ensures
