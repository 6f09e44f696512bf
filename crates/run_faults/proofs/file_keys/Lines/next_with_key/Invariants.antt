-- No line that was skipped has a key.
use Rattle.std.proofs.Common.{◌≡◌, ℕ, ◌+◌, ◌^◌, ◌<◌, List}
use Rattle.run_faults.specs.FileKeys.{line_room, lines_keys}
use Rattle.run_faults.proofs.file_keys.Lines.next_with_key.Given as goal

abbrev pub invariant-loop-self : goal.invariant-loop-self
invariant-loop-self l = record {
  room : l.self.passed + line_room l.self.rest < 2 ^ 64;
  same : (name : List ℕ) → lines_keys name l.initial.self ≡ lines_keys name l.self;
}

abbrev pub decreases-loop-self : goal.decreases-loop-self
decreases-loop-self l = line_room l.self.rest
