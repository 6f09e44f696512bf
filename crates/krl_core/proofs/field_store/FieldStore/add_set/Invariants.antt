use Rattle.krl_core.proofs.Common.{◌≡◌, run_entries}
use Rattle.serial_set.specs.Iteration.{left, steps}
use Rattle.krl_core.proofs.GainedEntries.{IsGained}
use Rattle.krl_core.proofs.field_store.FieldStore.add_set.Given as goal

-- the spans before the number were added, and the others are left
abbrev pub invariant-loop-next : goal.invariant-loop-next
invariant-loop-next g l =
    let spans = g.S.Spans.spans l.spans in
    record {
      gained : IsGained (run_entries l.fn.self.authority) spans (left l.next spans) l.fn.self l.self;
      authority : l.self.authority ≡ l.fn.self.authority;
    }

abbrev pub decreases-loop-next : goal.decreases-loop-next
decreases-loop-next g l = steps l.next (g.S.Spans.spans l.spans)
