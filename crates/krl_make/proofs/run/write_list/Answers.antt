-- The text that is written names the stored revocations.
use Rattle.krl_make.proofs.MadeLists.{names_same}
use Rattle.krl_make.proofs.run.write_list.Goals as goal

pub returns-in-Ok : goal.returns-in-Ok
returns-in-Ok c =
    let is = c.in-Ok.ensures in
    (is.0, is.1, names_same c.args.header.now c.args.revocations.now _ is.0 is.1 c.requires)
