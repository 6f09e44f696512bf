-- The first outcome is printed, and then the second one, if there is one.
use Rattle.std.proofs.Common.{[], ◌∷◌}
use Rattle.std.proofs.lemmas.Result.{err_from_is_err_and}
use Rattle.audit_lines.specs.Outcome.{place, place_second}
use Rattle.krl_audit.proofs.Telling.{told_stop, told_then}
use Rattle.krl_audit.proofs.auditor.Auditor.say_all.Goals as goal

pub returns-in_err-tally-clause-told : goal.returns-in_err-tally-clause-told
returns-in_err-tally-clause-told g c =
    let p = err_from_is_err_and c.from_residual.result c.from_residual.ensures.1 in
    rw (p.1, p.2) (λ given gives answers judges. told_stop answers _ c.args.at.name.now c.args.tally (place c.args.at.number given.first ∷ []) (place_second c.args.at.number given.second) _ _ _ _ _ _ (c.in_err-tally.ensures.told given.first gives.first answers judges))

pub returns-in-None-clause-told : goal.returns-in-None-clause-told
returns-in-None-clause-told g c = λ given gives answers judges.
    let none = rw c.in-None.is at gives.second in
    rw none (c.in_ok-tally.ensures.told given.first gives.first answers judges)

pub returns-in-Some-clause-told : goal.returns-in-Some-clause-told
returns-in-Some-clause-told g c = λ given gives answers judges.
    let some = rw c.in-Some.is at gives.second in
    let later = rw c.in_ok-tally.ensures.judge at c.say-in-Some.ensures.told in
    rw some.1.1 (told_then answers _ c.args.at.name.now c.args.tally (place c.args.at.number given.first ∷ []) (place c.args.at.number some.0 ∷ []) _ _ _ _ _ _ _ _ (c.in_ok-tally.ensures.told given.first gives.first answers judges) (later some.0 some.1.0 answers judges))
