-- The buffer holds the bytes that came, and the reader has not failed.
use Rattle.std.proofs.Common.{◌≡◌, ◌≤◌, ◌-◌, ◌++◌, List, ℕ, false, length, vec_capacity, vec_len}
use Rattle.std.specs.Io.KnownBytes.{Consumes}
use Rattle.audit_run.proofs.reading.read_until.Given as goal

abbrev pub invariant-batches : goal.invariant-batches
invariant-batches g l = record {
  comes : (come : List ℕ)
      × ((l.text.items ≡ l.initial.text.items ++ come) × Consumes (g.R.Source.left l.initial.reader) (g.R.Source.left l.reader) come);
  working : g.R.Source.has_failed l.reader ≡ false;
  size : length l.batch ≡ 8192;
  room : vec_capacity l.initial.text ≤ vec_capacity l.text;
}

abbrev pub decreases-batches : goal.decreases-batches
decreases-batches g l = l.most - vec_len l.text
