-- The bytes that were consumed are the front of the buffer.
use Rattle.std.specs.Io.Buffered.{reader_buffer, reader_inner, reader_remaining}
use Rattle.byte_streams.proofs.Buffered.{Consumes-held}
use Rattle.byte_streams.proofs.from_buffer.FromBufferSource.consume.Goals as goal

pub returns-clause-bytes : goal.returns-clause-bytes
returns-clause-bytes g c =
    let inner = c.args.self.now.reader.inner in
    Consumes-held _ (reader_buffer inner) (g.R.Read.remaining (reader_inner inner)) (reader_remaining g.R.Read.remaining c.consume.new.self) c.args.count c.requires c.consume.ensures.bytes
