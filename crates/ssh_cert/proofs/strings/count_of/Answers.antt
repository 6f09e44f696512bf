use Rattle.std.proofs.Common.{rules, false}
use Rattle.std.specs.Prelude.{IsTrue}
use Rattle.ssh_cert.proofs.StringLists.{count_begins, count_ends, count_fails, count_goes_on}
use Rattle.ssh_cert.proofs.strings.count_of.Goals as goal

pub loop-left-init : goal.loop-left-init
loop-left-init c = rw c.new-left.ensures (count_begins c.args.bytes.now)

pub returns-in_default : goal.returns-in_default
returns-in_default c = count_fails c.args.bytes.now c.loop-left.left c.loop-left.count c.in_default.field-0 c.loop-left.invariant (λ none. let never : IsTrue false = c.loop-left-test.ensures.1 none in absurd cc) c.in_default.ensures.exact.0

pub loop-left-smaller : goal.loop-left-smaller
loop-left-smaller c = (count_goes_on c.args.bytes.now c.loop-left.left c.string.new.self c.in-Ok._string.now c.loop-left.count c.loop-left.invariant c.in-Ok.ensures.exact).1

pub loop-left-preserved : goal.loop-left-preserved
loop-left-preserved c = (count_goes_on c.args.bytes.now c.loop-left.left c.string.new.self c.in-Ok._string.now c.loop-left.count c.loop-left.invariant c.in-Ok.ensures.exact).0

pub returns : goal.returns
returns c = count_ends c.args.bytes.now c.loop-left.left c.loop-left.count c.loop-left.invariant (c.loop-left-test.ensures.0 (search rules))
