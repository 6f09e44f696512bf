-- The audit is that of the words.
use Rattle.std.proofs.Common.{◌∙◌, ap}
use Rattle.krl_arguments.specs.Task.{if_list}
use Rattle.krl_arguments.proofs.tasks.audit_in.Goals as goal

pub returns : goal.returns
returns c = c.if_list.ensures ∙ ap if_list c.in_ok-audit_with.ensures
