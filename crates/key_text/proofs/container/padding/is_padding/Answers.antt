-- The bytes are a front of the longest padding, or one of them differs from it.
use Rattle.std.proofs.Common.{arith}
use Rattle.key_text.proofs.ContainerReads.{padding_other, padding_too_long, padding_whole}
use Rattle.key_text.proofs.container.padding.is_padding.Goals as goal

pub returns-then-bytes-gt-MOST : goal.returns-then-bytes-gt-MOST
returns-then-bytes-gt-MOST c = padding_too_long c.args.bytes.now c.if-bytes-gt-MOST.true

pub returns-then-byte-i : goal.returns-then-byte-i
returns-then-byte-i c = padding_other c.args.bytes.now c.loop-i.i c.loop-i-test.true c.if-bytes-gt-MOST.false c.if-byte-i.true

pub returns : goal.returns
returns c = padding_whole c.args.bytes.now (omega arith) (λ k lt. c.loop-i.invariant k (omega arith))
