-- Each field is the value that was found.
use Rattle.std.proofs.Common.{refl}
use Rattle.krl_arguments.proofs.tasks.show_with.Goals as goal

pub returns : goal.returns
returns c = rw (c.is_set.ensures, c.is_set-2.ensures, c.in_ok-lists.ensures, c.in_ok-names.ensures) refl
