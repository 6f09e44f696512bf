-- The line ends at the line feed that was found, or at the end of the text.
use Rattle.std.proofs.Common.{rules}
use Rattle.key_text.proofs.LineSplits.{first_line, only_line}
use Rattle.key_text.proofs.lines.split_line.Goals as goal

pub returns-then-byte-eq10-clause-lines : goal.returns-then-byte-eq10-clause-lines
returns-then-byte-eq10-clause-lines c = first_line c.args.text.now c.loop-i.i (search rules) c.loop-i.invariant (search rules)

pub returns-clause-lines : goal.returns-clause-lines
returns-clause-lines c = only_line c.args.text.now (λ k lt. c.loop-i.invariant k (search rules))
