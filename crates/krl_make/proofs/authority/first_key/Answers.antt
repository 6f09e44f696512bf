-- There is a first key, which is returned or faulty, or there is none.
use Rattle.std.proofs.Common.{ap, sym, ◌∙◌}
use Rattle.std.proofs.lemmas.Result.{err_from_is_err_and}
use Rattle.run_faults.specs.Keys.{Named}
use Rattle.krl_make.proofs.MadeLists.{first_given, first_refused, no_key_first}
use Rattle.krl_make.proofs.authority.first_key.Goals as goal

pub returns-in_err-key-in-Some : goal.returns-in_err-key-in-Some
returns-in_err-key-in-Some c =
    let p = err_from_is_err_and c.from_residual.result c.from_residual.ensures.1 in
    let given = rw c.in_err-key-in-Some.was at c.in-Some.ensures.steps in
    rw (p.1, p.2) (first_refused c.args.file.now given.0 c.next.new.self _ (sym c.keys_of-keys.ensures.keys ∙ given.1.0) given.1.1)

pub returns-in_ok-key-in-Some : goal.returns-in_ok-key-in-Some
returns-in_ok-key-in-Some c =
    let given = rw c.in_ok-key-in-Some.was at c.in-Some.ensures.steps in
    let first = sym c.keys_of-keys.ensures.keys ∙ rw given.1.1 at given.1.0 in
    first_given _ c.args.file.now c.in_ok-key-in-Some.field-0 c.next.new.self _ first c.key_blob-in-Some.ensures

pub returns-in-None : goal.returns-in-None
returns-in-None c =
    rw (c.whole.ensures, ap (λ (file : Named). file.name) c.file.view_is) (no_key_first c.args.file.now (sym c.keys_of-keys.ensures.keys ∙ c.in-None.ensures.steps.0))
