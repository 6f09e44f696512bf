use Rattle.span_sets.proofs.ReplacementMembers.{span_tight}
use Rattle.span_sets.proofs.chunk.Chunk.span.Goals as goal

pub returns-clause-tight : goal.returns-clause-tight
returns-clause-tight c = span_tight _ c.requires
