-- A number's bytes are as many as its size.
use Rattle.std.proofs.Common.{subst}
use Rattle.std.specs.Prelude.{slice_index}
use Rattle.ssh_wire.specs.Rows.{BeginsWithPart}
use Rattle.ssh_wire.specs.Wire.{number}
use Rattle.ssh_wire.proofs.Fields.{length-number}
use Rattle.krl_format.specs.Field.{part_of}
use Rattle.krl_openssh.proofs.authorities.skips_part.Goals as goal

pub returns-in-Number : goal.returns-in-Number
returns-in-Number c = λ value rest begins.
    let size = c.in-Number.size in
    let n = slice_index value 0 in
    let number_first = subst (λ part. BeginsWithPart (part_of part) c.args.left.now value rest) c.in-Number.is begins in
    c.skips_bytes.ensures (number size n) rest number_first.spelled (length-number size n)
