-- Each field is the value that was found.
use Rattle.std.proofs.Common.{refl}
use Rattle.krl_arguments.proofs.tasks.audit_with.Goals as goal

pub returns : goal.returns
returns c =
    rw (c.value_of.ensures, c.in_ok-texts.ensures, c.is_set.ensures, c.is_set-2.ensures, c.is_set-3.ensures, c.is_set-4.ensures, c.is_set-5.ensures, c.is_set-6.ensures, c.value_of-2.ensures, c.in_ok-canary.ensures, c.in_ok-exclude.ensures, c.value_of-3.ensures, c.in_ok-sshd.ensures, c.value_of-4.ensures, c.in_ok-command_output.ensures, c.in_ok-files.ensures) refl
