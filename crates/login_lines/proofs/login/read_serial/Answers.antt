use Rattle.std.proofs.Common.{codes, sym}
use Rattle.login_lines.specs.declared.words.Class.TheVariants.{Digit}
use Rattle.login_lines.proofs.Parts.{span_found}
use Rattle.login_lines.proofs.login.read_serial.Goals as goal

pub number_of-requires : goal.number_of-requires
number_of-requires c =
    (span_found Digit (codes ") CA ") c.args.text.now (c.in_ok-digits.digits.now, c.in_ok-digits.text.now) (sym c.in_ok-digits.ensures.span)).0
