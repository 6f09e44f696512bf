-- The finding is printed if it is to be printed, and counted, or the run is stopped at it.
use Rattle.std.proofs.Common.{refl}
use Rattle.std.proofs.lemmas.Result.{err_from_is_err_and}
use Rattle.login_run.proofs.Telling.{tells_lost, tells_made}
use Rattle.login_run.proofs.finding.say.Goals as goal

pub returns-in_err-say_made : goal.returns-in_err-say_made
returns-in_err-say_made g c =
    let p = err_from_is_err_and c.from_residual.result c.from_residual.ensures.1 in
    rw (p.1, p.2) (λ placed named made.
    tells_lost c.args.name.now placed c.in-Ok.judged.kind c.in-Ok.judged.said c.args.auditor.now.run.line.items _ _ _ named (rw c.in-Ok.is at made) c.in_err-say_made.ensures refl)

pub returns : goal.returns
returns g c = λ placed named made.
    tells_made c.args.name.now placed c.in-Ok.judged.kind c.in-Ok.judged.said c.args.auditor.now.run.line.items _ _ _ named (rw c.in-Ok.is at made) c.in_ok-say_made.ensures c.with-auditor.ensures refl
