-- The byte ahead is the first byte left.
use Rattle.std.proofs.Common.{sym, subst, arith}
use Rattle.std.specs.Io.KnownBytes.{Consumes}
use Rattle.byte_streams.proofs.Pulling.{take-set_first, Consumes-ahead}
use Rattle.byte_streams.proofs.rest.read_on.Goals as goal

pub returns-in-Some-clause-bytes : goal.returns-in-Some-clause-bytes
returns-in-Some-clause-bytes g c =
    let left = g.R.Source.left c.args.reader.now in
    let first = sym (take-set_first c.args.into.now c.in-Some.byte c.requires.room) in
    rw c.in-Some.is (subst (Consumes _ left) first (Consumes-ahead c.in-Some.byte left), λ none. absurd (omega (arith, none)))
