use Rattle.serial_set.proofs.Common.{◌+◌, ◌-◌, ◌≡◌, arith, finished_of, reverse, subst}
use Rattle.serial_set.proofs.ByteRuns.{SoFar, SoFar-start, SoFar-unset, OnFrom, OnFrom-past}
use Rattle.serial_set.proofs.ByteRuns.{whole_runs, none_holds}
use Rattle.serial_set.proofs.byte_runs.runs_of_byte.Goals as goal

pub loop-bit-init : goal.loop-bit-init
loop-bit-init c =
    let base = c.args.offset + c.args.position in
    rw (c.none.ensures.spans, c.none.ensures.count) (SoFar-start base c.args.byte c.args.pending (omega arith) c.requires.in_step)

pub loop-bit-preserved : goal.loop-bit-preserved
loop-bit-preserved c =
    let base = c.args.offset + c.args.position in
    let runs = c.loop-bit.runs in
    rw (c.close.ensures.pending, c.close.ensures.finished, c.close.ensures.count)
    (SoFar-unset base c.args.byte c.args.pending c.loop-bit.bit (c.loop-bit.bit - 1) runs.pending (finished_of runs.finished) runs.finished.count (omega arith) c.in-None.ensures c.loop-bit.invariant)

-- at the end no bit is left
whole : (c : goal.After-loop-bit) → SoFar (c.args.offset + c.args.position) c.args.byte c.args.pending 0 c.loop-bit.runs.pending (finished_of c.loop-bit.runs.finished) c.loop-bit.runs.finished.count
whole c =
    let none : c.loop-bit.bit ≡ 0 = omega arith in
    subst (λ n. SoFar (c.args.offset + c.args.position) c.args.byte c.args.pending n c.loop-bit.runs.pending (finished_of c.loop-bit.runs.finished) c.loop-bit.runs.finished.count) none c.loop-bit.invariant

pub returns-clause-runs : goal.returns-clause-runs
returns-clause-runs c = whole_runs (c.args.offset + c.args.position) c.args.byte c.args.pending c.loop-bit.runs.pending (finished_of c.loop-bit.runs.finished) c.loop-bit.runs.finished.count (whole c)

pub returns-clause-ends : goal.returns-clause-ends
returns-clause-ends c =
    let base = c.args.offset + c.args.position in
    let finished = finished_of c.loop-bit.runs.finished in
    let same : base + 0 ≡ base = omega arith in
    none_holds base finished (OnFrom-past base c.loop-bit.runs.pending (reverse finished) (subst (λ n. OnFrom n c.loop-bit.runs.pending (reverse finished)) same (SoFar.on (whole c))))
