use Rattle.std.proofs.Common.{◌-◌, ◌≤◌, length}
use Rattle.krl_core.proofs.StoredEntries.{AddsFirst}
use Rattle.krl_core.proofs.field_store.FieldStore.add_spans.Given as goal

-- the spans before `at` were added
abbrev pub invariant-loop-at : goal.invariant-loop-at
invariant-loop-at g l = record {
  within : l.at ≤ length l.spans;
  adds : AddsFirst l.fn.self l.fn.spans l.at l.self;
}

abbrev pub decreases-loop-at : goal.decreases-loop-at
decreases-loop-at g l = length l.spans - l.at
