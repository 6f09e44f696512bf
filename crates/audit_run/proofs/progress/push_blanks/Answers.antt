-- At the end all blanks are appended.
use Rattle.std.proofs.Common.{◌≡◌, ◌++◌, ◌∙◌, ap, arith, replicate}
use Rattle.audit_run.proofs.progress.push_blanks.Goals as goal

pub returns : goal.returns
returns c =
    let all : c.blanks.pushed ≡ c.args.count = omega (arith, c.blanks.invariant.0, c.blanks-test.false) in
    c.blanks.invariant.1 ∙ ap (λ n. c.args.text.now.items ++ replicate n 32) all
