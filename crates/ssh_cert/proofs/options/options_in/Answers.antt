use Rattle.ssh_cert.proofs.OptionLists.{even_options, odd_options}
use Rattle.ssh_cert.proofs.options.options_in.Goals as goal

pub returns-then-branch-eq1 : goal.returns-then-branch-eq1
returns-then-branch-eq1 c = odd_options c.args.bytes.now c.in_ok-count_of.field-0 c.in_ok-count_of.ensures c.if-branch-eq1.true

pub invariant_of-result : goal.invariant_of-result
invariant_of-result c = (even_options c.args.bytes.now c.in_ok-count_of.field-0 c.in_ok-strings_in.field-0 c.in_ok-count_of.ensures c.if-branch-eq1.false c.in_ok-strings_in.ensures).pairs

pub returns : goal.returns
returns c = (even_options c.args.bytes.now c.in_ok-count_of.field-0 c.in_ok-strings_in.field-0 c.in_ok-count_of.ensures c.if-branch-eq1.false c.in_ok-strings_in.ensures).options
