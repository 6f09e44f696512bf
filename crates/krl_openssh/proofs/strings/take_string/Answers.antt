-- A string that is spelled is read, and some bytes are taken.
use Rattle.std.proofs.Common.{ap, ◌∙◌, arith, length-append}
use Rattle.ssh_wire.specs.Wire.{string}
use Rattle.ssh_wire.specs.Reading.{string_at}
use Rattle.ssh_wire.proofs.Fields.{length-string, string_again}
use Rattle.krl_openssh.proofs.Spelled.{not_both, taken_is}
use Rattle.krl_openssh.proofs.strings.take_string.Goals as goal

pub returns-in-Ok-clause-shorter : goal.returns-in-Ok-clause-shorter
returns-in-Ok-clause-shorter c =
    rw c.in-Ok.ensures.found (omega (arith, length-append (string c.in-Ok.text.now) c.string.new.self, length-string c.in-Ok.text.now))

pub returns-in-Ok-clause-text : goal.returns-in-Ok-clause-text
returns-in-Ok-clause-text c = λ text rest parts fits.
    taken_is c.in-Ok.text.now c.string.new.self text rest (string_at c.args.left.now) c.in-Ok.ensures.exact (ap string_at parts ∙ string_again text rest fits)

pub returns-in-Err-clause-text : goal.returns-in-Err-clause-text
returns-in-Err-clause-text c = λ text rest parts fits.
    not_both (string_at c.args.left.now) c.in-Err.field-0 (text, rest) c.in-Err.ensures.exact.0 (ap string_at parts ∙ string_again text rest fits)
