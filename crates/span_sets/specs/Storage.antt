-- The chunks of a set: its only one, or those of pages.
use Rattle.std.specs.Prelude.{List}
use Rattle.std.specs.Option.{option_to_list}
use Rattle.span_sets.specs.declared.chunk.Chunk.{Chunk}
use Rattle.span_sets.specs.declared.storage.Storage.{Storage}
use Rattle.span_sets.specs.declared.storage.Storage.TheVariants.{Only, Pages}
use Rattle.span_sets.specs.Pages.{chunks_of}

-- the only chunk, if there is one, or the chunks of all pages
abbrev pub chunks_stored : Storage → List Chunk
chunks_stored (Only only) = option_to_list only
chunks_stored (Pages pages) = chunks_of pages.items
