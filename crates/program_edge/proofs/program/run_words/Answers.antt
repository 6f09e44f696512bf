-- The words are read, and done.
use Rattle.program_edge.specs.Ends.{done}
use Rattle.program_edge.proofs.program.run_words.Goals as goal

pub returns : goal.returns
returns g c = done _ c.run.ensures
