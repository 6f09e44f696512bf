-- The line ends at the line feed that was found, or at the end of the text.
use Rattle.std.proofs.Common.{arith}
use Rattle.std.proofs.lemmas.Bool.{false_from_ne_true}
use Rattle.key_text.proofs.LineSplits.{first_line, only_line}
use Rattle.login_run.proofs.feed.split_at_feed.Goals as goal

pub returns-in-Some-clause-lines : goal.returns-in-Some-clause-lines
returns-in-Some-clause-lines c =
    let found = c.in-Some.ensures in
    first_line c.args.text.now c.in-Some.at found.0.high (λ k lt. false_from_ne_true _ (found.0.before k (omega arith) lt)) found.1

pub returns-in-None-clause-lines : goal.returns-in-None-clause-lines
returns-in-None-clause-lines c = only_line c.args.text.now (λ k lt. false_from_ne_true _ (c.in-None.ensures k (omega arith) lt))
