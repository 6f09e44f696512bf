use Rattle.serial_set.proofs.Common.{◌*◌, ◌+◌, ◌-◌, ◌≡◌, ap, arith, BitNames, finished_of, inl, inr}
use Rattle.serial_set.proofs.Common.{subst}
use Rattle.std.proofs.lemmas.Grind.{common_steps}
use Rattle.serial_set.proofs.FedBitmaps.{byte_fits}
use Rattle.serial_set.proofs.ByteRuns.{step_positive, finished_runs}
use Rattle.serial_set.proofs.bit_runs.BitRuns.take.Goals as goal

pub runs_of_byte-runs-requires-clause-fits : goal.runs_of_byte-runs-requires-clause-fits
runs_of_byte-runs-requires-clause-fits c =
    let now = c.args.self.now in
    let base : c.self.inside.offset + 8 * c.from-position.result ≡ now.offset + 8 * (now.bytes_left - 1) =
    omega (arith, ap (λ p. p.offset) c.self.view_is, ap (λ p. p.bytes_left) c.self.view_is, c.from-position.ensures) in
    λ s n. byte_fits now c.args.byte c.requires.good s (subst (λ k. BitNames k c.args.byte s) base n)

pub returns-clause-runs : goal.returns-clause-runs
returns-clause-runs c =
    let fed = c.runs_of_byte-runs in
    finished_runs fed.result.pending (finished_of fed.result.finished) fed.ensures.runs.0
    (λ s n. elim ((fed.ensures.runs.1 s).0 n) [
      | inl old ↦ step_positive (c.self.inside.offset + 8 * c.self.inside.bytes_left) c.self.inside.pending s c.self.invariant old
      | inr new ↦ new.0
    ])

pub returns-clause-fed : goal.returns-clause-fed
returns-clause-fed c = grind (arith, common_steps) steps 2000000
