-- Fewer bytes came before the reader ended or failed than the limit leaves.
use Rattle.std.proofs.Common.{◌≡◌, ℕ, ◌-◌, length, false, rules, arith}
use Rattle.byte_streams.specs.Filling.{FallsShort, pull_of}
use Rattle.byte_streams.specs.Pull.{after_ahead}
use Rattle.byte_streams.proofs.Pulling.{Comes-more, FallsShort-after, Misses-short}
use Rattle.byte_streams.proofs.filling.refusal.Goals as goal

pub loop-at-preserved : goal.loop-at-preserved
loop-at-preserved g c = record {
  comes = Comes-more _ _ _ _ _ _ _ c.loop-at.invariant.comes c.in-Ok.ensures.fills.0 (search rules);
  within = omega (arith, c.min-part.ensures);
  working = c.in-Ok.ensures.fills.1;
}

pub returns-in-Err-clause-misses : goal.returns-in-Err-clause-misses
returns-in-Err-clause-misses g c = λ size past.
    let part : length c.fill.new.into ≡ c.min-part.result = search rules in
    let left : ℕ = c.args.limit - c.args.taken in
    let stops : FallsShort c.in-Err.fault (after_ahead c.args.ahead.now (g.R.Source.left c.args.reader.now)) (after_ahead c.fill.new.ahead (g.R.Source.left c.fill.new.reader)) (g.R.Source.has_failed c.fill.new.reader) left =
    FallsShort-after _ _ _ _ _ _ _ left c.loop-at.invariant.comes.bytes c.in-Err.ensures.fills (omega (arith, c.loop-at.invariant.comes.count, c.min-part.ensures)) in
    Misses-short (pull_of (g.R.Source.left c.args.reader.now) false c.args.ahead.now c.args.taken c.args.limit) (pull_of (g.R.Source.left c.fill.new.reader) (g.R.Source.has_failed c.fill.new.reader) c.fill.new.ahead c.args.taken c.args.limit) c.in-Err.fault left size stops c.in-Err.ensures.none_ahead (omega arith) (omega arith)
