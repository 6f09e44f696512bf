-- The first byte is given.
use Rattle.std.proofs.Common.{rules}
use Rattle.text_run.proofs.Aheads.{first_given}
use Rattle.text_run.proofs.ahead.AheadSource.read.Goals as goal

pub returns-in-Some-clause-bytes : goal.returns-in-Some-clause-bytes
returns-in-Some-clause-bytes g c = first_given c.args.self.now.first c.in-Some.byte _ _ c.in-Some.is (search rules)
