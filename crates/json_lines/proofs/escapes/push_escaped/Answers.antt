-- One byte more, and the bytes that are held at the end.
use Rattle.std.proofs.Common.{sym}
use Rattle.json_lines.proofs.Escaping.{all_written, one_more}
use Rattle.json_lines.proofs.escapes.push_escaped.Goals as goal

pub loop-byte-preserved : goal.loop-byte-preserved
loop-byte-preserved c = rw c.next_of-held.ensures (one_more _ _ _ c.args.text.now c.loop-byte.held c.loop-byte.byte-index c.loop-byte-test.true c.loop-byte.invariant c.in_ok-push_byte.ensures)

pub returns : goal.returns
returns c = all_written _ _ _ c.args.text.now c.loop-byte.held c.loop-byte.byte-index c.loop-byte-test.false c.loop-byte.invariant (rw (sym c.bytes_of.ensures) c.in_ok-extend_from_slice.ensures.items)
