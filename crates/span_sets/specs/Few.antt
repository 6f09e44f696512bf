-- At most three chunks.
use Rattle.std.specs.Prelude.{List}
use Rattle.arrayvec.specs.ArrayVec.{ArrayVec}
use Rattle.span_sets.specs.declared.chunk.Chunk.{Chunk}

abbrev pub few_of : ArrayVec Chunk → List Chunk
few_of few = few.items
