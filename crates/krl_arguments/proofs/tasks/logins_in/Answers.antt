-- The search for logins is that of the words.
use Rattle.std.proofs.Common.{◌∙◌, ap}
use Rattle.krl_arguments.specs.Task.{if_searches}
use Rattle.krl_arguments.proofs.tasks.logins_in.Goals as goal

pub returns : goal.returns
returns c = c.if_searches.ensures ∙ ap if_searches c.in_ok-logins_with.ensures
