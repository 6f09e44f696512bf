use Rattle.krl_queries.proofs.Common.{[], ◌∷◌, arith, on_ok_weaker, RangeEntry, Some}
use Rattle.krl_entries.proofs.AddedMeaning.{nothing_more_within}
use Rattle.krl_queries.proofs.AddedFindings.{more_from, within_or_same}
use Rattle.krl_queries.proofs.QuestionAnswers.{no_serial}
use Rattle.krl_queries.proofs.questions.Questions.store_span.Goals as goal

pub returns-in-None-clause-means : goal.returns-in-None-clause-means
returns-in-None-clause-means g c =
    let a = c.args.authority.now in
    let none = rw c.in-None.is at c.first_serial.ensures in
    rw (← c.self.view_is) (nothing_more_within (Some c.self.inside.topics) c.self.inside.found (RangeEntry a c.args.span.lo c.args.span.hi ∷ [])
    (no_serial c.self.inside.topics a c.args.span.lo c.args.span.hi none))

pub returns-in-Some-clause-means : goal.returns-in-Some-clause-means
returns-in-Some-clause-means g c =
    let a = c.args.authority.now in
    let first = c.in-Some.ensures in
    rw (← c.self.view_is) (on_ok_weaker c.add_serials.result (more_from c.self.inside.topics c.self.inside.found _ a c.args.span.lo c.in-Some.first c.args.span.hi first.0 first.3) c.add_serials.ensures.means)

pub returns-in-Some-clause-within : goal.returns-in-Some-clause-within
returns-in-Some-clause-within g c =
    let a = c.args.authority.now in
    let first = c.in-Some.ensures in
    let e = c.add_serials.ensures in
    rw (← c.self.view_is) (within_or_same c.add_serials.result c.self.inside.topics c.self.inside.found c.add_serials.new.self (RangeEntry a c.in-Some.first c.args.span.hi) e.means e.refused (omega (arith, first.0, c.requires.0), first.2))
