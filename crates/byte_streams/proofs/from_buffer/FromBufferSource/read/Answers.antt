-- The bytes that were copied are the front of the buffer, and are consumed.
use Rattle.std.proofs.Common.{◌≡◌, ℕ, length, take, sym, subst, rules}
use Rattle.std.specs.Io.Buffered.{reader_buffer, reader_remaining}
use Rattle.byte_streams.proofs.Buffered.{take-copied}
use Rattle.std.specs.Io.KnownBytes.{Consumes}
use Rattle.byte_streams.proofs.from_buffer.FromBufferSource.read.Goals as goal

pub returns-clause-bytes : goal.returns-clause-bytes
returns-clause-bytes g c =
    let inner = c.args.self.now.reader.inner in
    let count : ℕ = length c.args.into.now in
    let front : take count c.copy_from_slice.new.self ≡ take count (reader_buffer inner) = take-copied c.copy_from_slice.new.self (reader_buffer inner) count c.copy_from_slice.ensures.len (search rules) in (
      subst (Consumes (reader_remaining g.R.Read.remaining inner) (reader_remaining g.R.Read.remaining c.consume.new.self.reader.inner)) (sym front) c.consume.ensures.bytes,
      λ none. absurd (c.if-count-eq0.false none),
    )
