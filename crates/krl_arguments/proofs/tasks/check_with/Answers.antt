-- Each field is the value that was found.
use Rattle.std.proofs.Common.{refl}
use Rattle.krl_arguments.proofs.tasks.check_with.Goals as goal

pub returns : goal.returns
returns c =
    rw (c.value_of.ensures, c.value_of-2.ensures, c.value_of-3.ensures, c.max_age_of.ensures, c.count_at.ensures)
    (rw (c.is_set.ensures, c.is_set-2.ensures, c.is_set-3.ensures) (rw (c.in_ok-keep.ensures, c.in_ok-canary.ensures, c.in_ok-names.ensures) refl))
