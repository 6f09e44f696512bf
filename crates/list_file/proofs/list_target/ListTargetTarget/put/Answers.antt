-- Nothing is claimed about what is under the name.
use Rattle.std.proofs.Common.{inl}
use Rattle.std.proofs.lemmas.Result.{err_from_is_err_and}
use Rattle.list_file.proofs.list_target.ListTargetTarget.put.Goals as goal

pub returns-in_err-self-clause-failed : goal.returns-in_err-self-clause-failed
returns-in_err-self-clause-failed c =
    let p = err_from_is_err_and c.from_residual.result c.from_residual.ensures.1 in
    rw p.1 (inl (record { still = inl (λ content held. tt); later = λ was. tt }))

pub returns-in-Err-clause-failed : goal.returns-in-Err-clause-failed
returns-in-Err-clause-failed c = inl (record { still = inl (λ content held. tt); later = λ was. tt })
