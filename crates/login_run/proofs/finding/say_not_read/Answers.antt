-- What was made is said.
use Rattle.std.proofs.Common.{refl}
use Rattle.login_run.specs.Finding.{Lacks, place}
use Rattle.login_run.proofs.finding.say_not_read.Goals as goal

pub returns : goal.returns
returns g c =
    let said = c.say.ensures (place c.args.at.name.now c.args.at.number (Lacks c.args.why)) refl (λ answers judges. c.judge_unread-made.ensures answers) in
    record { told = said.told; judge = said.judge }
