use Rattle.std.proofs.Common.{◌≡◌, ◌+◌, length}
use Rattle.serial_set_tests.proofs.tests.bitmaps.read.Given as goal

abbrev pub invariant-loop-byte : goal.invariant-loop-byte
invariant-loop-byte g l = l.bits.bytes_left + l.byte-index ≡ length l.bytes
