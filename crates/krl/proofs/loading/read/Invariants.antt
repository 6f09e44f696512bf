-- The buffer holds the bytes that came, and the reader has not failed.
use Rattle.std.proofs.Common.{◌≡◌, ◌≤◌, ◌-◌, false, length, vec_capacity, vec_len}
use Rattle.std.specs.Io.KnownBytes.{Consumes}
use Rattle.krl.proofs.loading.read.Given as goal

abbrev pub invariant-loop-batch : goal.invariant-loop-batch
invariant-loop-batch g l = record {
  comes : Consumes (g.R.Source.left l.initial.reader) (g.R.Source.left l.reader) l.text.items;
  working : g.R.Source.has_failed l.reader ≡ false;
  size : length l.batch ≡ 8192;
  room : vec_capacity l.initial.text ≤ vec_capacity l.text;
}

abbrev pub decreases-loop-batch : goal.decreases-loop-batch
decreases-loop-batch g l = 16777217 - vec_len l.text
