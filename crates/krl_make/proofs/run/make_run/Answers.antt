-- The old list is read, and the run continues or stops there.
use Rattle.std.proofs.Common.{Ok, inr, option_map}
use Rattle.krl_make.specs.Making.{make_run_of}
use Rattle.krl_make.proofs.OverLists.{unread_refused}
use Rattle.krl_make.proofs.run.make_run.Goals as goal

pub returns-in-Err-clause-refused : goal.returns-in-Err-clause-refused
returns-in-Err-clause-refused g c = unread_refused c.args.wanted.now (option_map g.R.Source.left c.args.old) c.in-Err.stop c.in-Err.ensures.refused

pub returns-in-Ok-make_over-clause-made : goal.returns-in-Ok-make_over-clause-made
unfolding make_run_of
returns-in-Ok-make_over-clause-made g c =
    record { outcome = Ok c.in-Ok.base; over = c.in-Ok.ensures.read; makes = c.in-Ok-make_over.ensures }

pub returns-in-Err-make_over-clause-refused : goal.returns-in-Err-make_over-clause-refused
unfolding make_run_of
returns-in-Err-make_over-clause-refused g c =
    inr (record { outcome = Ok c.in-Ok.base; over = c.in-Ok.ensures.read; makes = c.in-Err-make_over.ensures })
