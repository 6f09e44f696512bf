-- It was printed and counted, or the run was stopped.
use Rattle.std.proofs.Common.{Bool, [], ◌∷◌, true}
use Rattle.std.proofs.lemmas.Result.{err_from_is_err_and}
use Rattle.login_run.specs.Finding.{Lacks, place}
use Rattle.login_run.proofs.Telling.{tells_as, tells_err}
use Rattle.login_run.proofs.log.say_rest.Goals as goal

pub returns-in_err-say_not_read-clause-tells : goal.returns-in_err-say_not_read-clause-tells
returns-in_err-say_not_read-clause-tells g c =
    let p = err_from_is_err_and c.from_residual.result c.from_residual.ensures.1 in
    rw (p.1, p.2) (tells_err {W = g.row.W.Denot} {A = Unit {0}} {B = Bool} (place c.args.at.name.now c.args.at.number (Lacks c.args.why) ∷ []) _ _ _ c.in_err-say_not_read.ensures)

pub returns-clause-tells : goal.returns-clause-tells
returns-clause-tells g c = tells_as (place c.args.at.name.now c.args.at.number (Lacks c.args.why) ∷ []) (tt {0}) true _ _ c.in_ok-say_not_read.ensures
