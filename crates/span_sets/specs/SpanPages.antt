-- A set of serials as its chunks.
use Rattle.std.specs.Prelude.{List}
use Rattle.span_sets.specs.declared.chunk.Chunk.{Chunk}
use Rattle.span_sets.specs.declared.span_pages.SpanPages.{SpanPages}
use Rattle.span_sets.specs.Storage.{chunks_stored}

-- its only chunk, if it has one, or the chunks of all pages
abbrev pub chunks_held : SpanPages → List Chunk
chunks_held set = chunks_stored set.storage
