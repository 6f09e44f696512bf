use Rattle.std.proofs.Common.{◌∙◌}
use Rattle.login_lines.proofs.Digits.{digits_are_text, number_is_read}
use Rattle.login_lines.proofs.number.number_of.Goals as goal

pub returns-in_default : goal.returns-in_default
returns-in_default c = absurd (c.in_default.ensures.cases.0 (digits_are_text c.args.digits.now c.requires))

pub returns : goal.returns
returns c =
    c.ok.ensures.value
    ∙ number_is_read c.args.digits.now c.from_str_radix.result c.requires (rw c.in-Ok.ensures.cases.0 at c.from_str_radix.ensures.value)
