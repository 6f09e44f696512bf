-- The line is printed, and the waiting text is sent.
use Rattle.std.proofs.Common.{rules}
use Rattle.std.specs.Prelude.{[]}
use Rattle.run_output.proofs.RunParts.{begun}
use Rattle.check_run.proofs.Ending.{ends_there}
use Rattle.check_run.proofs.version.say_version.Goals as goal

pub returns : goal.returns
returns g c =
    let taken = g.W.Sink.taken c.args.out.now in
    let ends = rw c.err.ensures.value at c.finish-done.ensures.ends in
    let said = c.say_line-stop.ensures.says taken [] (rw (c.new-printer.ensures, c.requires) (begun taken _)) in
    ends_there _ taken _ _ _ _ _ _ (ends taken _ said) (search rules) (search rules)
