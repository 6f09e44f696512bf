-- The first read gave a front of the slice.
use Rattle.std.proofs.Common.{rules}
use Rattle.byte_streams.proofs.Pulling.{Fills-on}
use Rattle.byte_streams.proofs.filling.fill_from.Goals as goal

pub returns-in-Ok-2 : goal.returns-in-Ok-2
returns-in-Ok-2 g c =
    Fills-on c.fill_parts.result (g.R.Source.left c.args.reader.now) (g.R.Source.left c.read.new.self) _ _ c.read.new.into c.fill_parts.new.into c.in-Ok.count (search rules) c.in-Ok.ensures.part c.in-Ok.ensures.bytes.0 c.fill_parts.ensures
