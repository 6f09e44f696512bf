-- The vector holds the bytes that came before, followed by those in the batch.
use Rattle.std.proofs.Common.{◌≡◌, length, vec_len, false, le_refl, rules, arith}
use Rattle.std.proofs.lemmas.Result.{err_from_is_err_and}
use Rattle.byte_streams.specs.Filling.{FallsShort, pull_of}
use Rattle.byte_streams.specs.Pull.{after_ahead}
use Rattle.byte_streams.proofs.Pulling.{Misses-memory, Misses-short, FallsShort-after}
use Rattle.byte_streams.proofs.filling.fill_vec.Goals as goal

pub returns-in_err-fill-clause-misses : goal.returns-in_err-fill-clause-misses
returns-in_err-fill-clause-misses g c =
    let part : length c.fill.new.into ≡ c.min-part.result = search rules in
    let held : vec_len c.loop-batch.out ≡ length c.loop-batch.out.items = search rules in
    let stops : FallsShort c.in_err-fill.field-0.0 (after_ahead c.args.ahead.now (g.R.Source.left c.args.reader.now)) (after_ahead c.fill.new.ahead (g.R.Source.left c.fill.new.reader)) (g.R.Source.has_failed c.fill.new.reader) c.args.size = FallsShort-after _ _ _ _ _ _ _ _ c.loop-batch.invariant.comes c.in_err-fill.ensures.fills (omega (arith, held, part, c.min-part.ensures, c.len-in-loop-batch.ensures)) in
    let p = err_from_is_err_and c.from_residual.result c.from_residual.ensures.1 in
    rw (p.1, p.2) (λ taken limit fits. Misses-short (pull_of (g.R.Source.left c.args.reader.now) false c.args.ahead.now taken limit) (pull_of (g.R.Source.left c.fill.new.reader) (g.R.Source.has_failed c.fill.new.reader) c.fill.new.ahead taken limit) _ c.args.size c.args.size stops c.in_err-fill.ensures.none_ahead (le_refl _) fits)

pub returns-then-is_err-clause-misses : goal.returns-then-is_err-clause-misses
returns-then-is_err-clause-misses g c = λ taken limit fits.
    let held : vec_len c.loop-batch.out ≡ length c.loop-batch.out.items = search rules in
    Misses-memory (pull_of (g.R.Source.left c.args.reader.now) false c.args.ahead.now taken limit) (pull_of (g.R.Source.left c.loop-batch.reader) (g.R.Source.has_failed c.loop-batch.reader) c.loop-batch.ahead taken limit) c.args.size c.loop-batch.out.items c.loop-batch.invariant.comes (omega (arith, held, c.len-in-loop-batch.ensures)) fits c.loop-batch.invariant.working
