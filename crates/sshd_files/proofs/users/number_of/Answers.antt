use Rattle.std.proofs.Common.{◌∙◌, sym}
use Rattle.sshd_files.proofs.Digits.{digits_are_text, number_is_read}
use Rattle.sshd_files.proofs.users.number_of.Goals as goal

pub returns-in_default : goal.returns-in_default
returns-in_default c =
    absurd (c.in_default.ensures.cases.0
    (digits_are_text c.args.digits.now (sym c.are_digits.ensures ∙ c.if-not-are_digits.false)))

pub returns : goal.returns
returns c =
    c.ok.ensures.value
    ∙ number_is_read c.args.digits.now c.from_str_radix.result (sym c.are_digits.ensures ∙ c.if-not-are_digits.false)
    (rw c.in-Ok.ensures.cases.0 at c.from_str_radix.ensures.value)
