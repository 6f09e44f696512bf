-- What was made is said.
use Rattle.std.proofs.Common.{refl}
use Rattle.login_run.specs.Finding.{finding_of, place}
use Rattle.login_run.proofs.finding.say_line.Goals as goal

pub returns : goal.returns
returns g c = λ outcome is.
    let said = c.say.ensures (place c.args.at.name.now c.args.at.number (finding_of outcome)) refl (λ answers judges. c.judge_line-made.ensures outcome is answers judges) in
    record { told = said.told; judge = said.judge }
