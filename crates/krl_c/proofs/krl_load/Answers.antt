-- The list is stored, or the stored list stays unchanged.
use Rattle.krl_c.proofs.Common.{◌∙◌, loaded, not_loaded_for, refl, rules, SFits, w32}
use Rattle.krl_c.proofs.AnswerMeaning.{same}
use Rattle.krl_c.proofs.krl_load.Goals as goal

pub returns-in-Ok : goal.returns-in-Ok
returns-in-Ok c =
    let found = c.in-Ok.ensures.found in
    rw c.swap-old.ensures.new (loaded found.0 found.1 (record { is_loaded = refl; means = found.2.means }) found.2 refl)

pub returns-in-Err : goal.returns-in-Err
returns-in-Err c =
    let fits : SFits w32 c.of_list.result = search rules in
    not_loaded_for c.in-Err.refusal c.in-Err.ensures.refused (same c.of_list.result fits ∙ c.of_list.ensures) refl
