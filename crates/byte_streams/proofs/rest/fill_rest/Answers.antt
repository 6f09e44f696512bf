-- The vector holds the bytes that came before, followed by those in the batch.
use Rattle.std.proofs.Common.{◌≡◌, ◌<◌, ◌≤◌, length, vec_len, false, rules, arith}
use Rattle.ssh_wire.specs.declared.pull_fault.PullFault.TheVariants.{TooLong}
use Rattle.byte_streams.specs.Filling.{pull_of}
use Rattle.byte_streams.specs.Pull.{after_ahead}
use Rattle.byte_streams.proofs.Pulling.{MissesRest-failed, MissesRest-look, MissesRest-memory, MissesRest-read}
use Rattle.byte_streams.proofs.rest.fill_rest.Goals as goal

pub returns-then-is_err-clause-misses : goal.returns-then-is_err-clause-misses
returns-then-is_err-clause-misses g c = λ taken limit sum.
    let part : length c.read_on.new.into ≡ c.min-part.result = search rules in
    let held : vec_len c.loop-batch.out ≡ length c.loop-batch.out.items = search rules in
    let some : 0 < c.in-Ok.count = search rules in
    let within : c.in-Ok.count ≤ length c.read_on.new.into = c.in-Ok.ensures.part in
    MissesRest-memory (pull_of (g.R.Source.left c.args.reader.now) false c.args.ahead.now taken limit) (pull_of (g.R.Source.left c.read_on.new.reader) (g.R.Source.has_failed c.read_on.new.reader) c.read_on.new.ahead taken limit) _ c.loop-batch.out.items c.read_on.new.into c.in-Ok.count c.loop-batch.invariant.comes c.in-Ok.ensures.bytes.0 c.in-Ok.ensures.none_ahead some within (omega (arith, held, part, within, sum, c.min-part.ensures, c.len-in-loop-batch.ensures)) c.in-Ok.ensures.failed

pub returns-in_default-clause-misses : goal.returns-in_default-clause-misses
returns-in_default-clause-misses g c = λ taken limit sum.
    let held : vec_len c.loop-batch.out ≡ length c.loop-batch.out.items = search rules in
    MissesRest-read (pull_of (g.R.Source.left c.args.reader.now) false c.args.ahead.now taken limit) (pull_of (g.R.Source.left c.read_on.new.reader) (g.R.Source.has_failed c.read_on.new.reader) c.read_on.new.ahead taken limit) (after_ahead c.loop-batch.ahead (g.R.Source.left c.loop-batch.reader)) c.loop-batch.out.items c.loop-batch.invariant.comes (search rules) (search rules) (omega (arith, held, sum, c.loop-batch.invariant.within)) (search rules)

pub returns-in-Ok-true-clause-misses : goal.returns-in-Ok-true-clause-misses
returns-in-Ok-true-clause-misses g c = λ taken limit sum.
    let held : vec_len c.loop-batch.out ≡ length c.loop-batch.out.items = search rules in
    MissesRest-look (pull_of (g.R.Source.left c.args.reader.now) false c.args.ahead.now taken limit) (pull_of (g.R.Source.left c.look.new.reader) (g.R.Source.has_failed c.look.new.reader) c.look.new.ahead taken limit) (after_ahead c.loop-batch.ahead (g.R.Source.left c.loop-batch.reader)) c.loop-batch.out.items TooLong c.loop-batch.invariant.comes c.look.ensures.bytes (omega (arith, held, sum, c.loop-batch.invariant.within)) (search (rules, held, sum))

-- if there is a byte past the limit, the clause promises nothing about what was taken
pub returns-in-Ok-true-clause-ok : goal.returns-in-Ok-true-clause-ok
returns-in-Ok-true-clause-ok g c = tt

pub returns-in-Ok-true-clause-none_ahead : goal.returns-in-Ok-true-clause-none_ahead
returns-in-Ok-true-clause-none_ahead g c = tt

pub returns-in-Ok-true-clause-ends : goal.returns-in-Ok-true-clause-ends
returns-in-Ok-true-clause-ends g c = tt

pub returns-in-Err-clause-misses : goal.returns-in-Err-clause-misses
returns-in-Err-clause-misses g c = λ taken limit sum.
    let held : vec_len c.loop-batch.out ≡ length c.loop-batch.out.items = search rules in
    MissesRest-failed (pull_of (g.R.Source.left c.args.reader.now) false c.args.ahead.now taken limit) (pull_of (g.R.Source.left c.look.new.reader) (g.R.Source.has_failed c.look.new.reader) c.look.new.ahead taken limit) (after_ahead c.loop-batch.ahead (g.R.Source.left c.loop-batch.reader)) c.loop-batch.out.items c.in-Err.fault c.loop-batch.invariant.comes c.look.ensures.bytes (omega (arith, held, sum, c.loop-batch.invariant.within)) (search rules) (search rules) (search rules)
