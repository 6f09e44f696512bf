use Rattle.span_sets.specs.SpanPages.{chunks_held}
use Rattle.span_sets.proofs.TightChunks.{three_a_run}
use Rattle.span_sets.proofs.laws.three_chunks_a_run.Goals as goal

pub returns : goal.returns
returns c set = three_a_run 0 (chunks_held set) set.order set.tight
