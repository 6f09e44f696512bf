-- The text is short and has only digits, and its number fits or does not.
use Rattle.std.proofs.Common.{◌∙◌, ◌≤◌, arith, length, sym}
use Rattle.krl_job.proofs.Numbers.{no_digits, not_parsed, is_read, too_long}
use Rattle.krl_job.proofs.job.number_of.Goals as goal
use Rattle.krl_job.proofs.job.number_of.Goals.{then-text-gt-MOST_DIGITS-via-then-text-gt-MOST_DIGITS, then-text-gt-MOST_DIGITS-via-else-text-gt-MOST_DIGITS+then-not-are_digits}

pub returns-then-text-gt-MOST_DIGITS : goal.returns-then-text-gt-MOST_DIGITS
returns-then-text-gt-MOST_DIGITS c =
    elim c.then-text-gt-MOST_DIGITS.branch [
      | then-text-gt-MOST_DIGITS-via-then-text-gt-MOST_DIGITS w ↦ sym (too_long c.args.text.now (omega (arith, w.if-text-gt-MOST_DIGITS.true)))
      | then-text-gt-MOST_DIGITS-via-else-text-gt-MOST_DIGITS+then-not-are_digits w ↦ sym (no_digits c.args.text.now (rw w.as_bytes.ensures.value at (sym w.are_digits.ensures ∙ w.if-not-are_digits.true)))
    ]

pub returns-in-Ok : goal.returns-in-Ok
returns-in-Ok c =
    let short : length c.args.text.now ≤ 20 = omega (arith, c.if-text-gt-MOST_DIGITS.false) in
    let digits = rw c.as_bytes.ensures.value at (sym c.are_digits.ensures ∙ c.if-not-are_digits.false) in
    sym (is_read c.args.text.now c.in-Ok.number short digits c.in-Ok.ensures.value.0)

pub returns-in-Err : goal.returns-in-Err
returns-in-Err c =
    let digits = rw c.as_bytes.ensures.value at (sym c.are_digits.ensures ∙ c.if-not-are_digits.false) in
    sym (not_parsed c.args.text.now digits c.in-Err.ensures.value.0)
