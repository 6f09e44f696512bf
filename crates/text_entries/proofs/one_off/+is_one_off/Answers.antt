-- The last of the tests decides.
use Rattle.std.proofs.Common.{sym}
use Rattle.text_entries.proofs.OneOff.{last_off}
use Rattle.text_entries.proofs.one_off.+is_one_off.Goals as goal

pub returns-else-eq_ignore_ascii_case-3 : goal.returns-else-eq_ignore_ascii_case-3
returns-else-eq_ignore_ascii_case-3 t c =
    last_off _ _ _ _ _ _ _ c.in-Some.ensures.cases.0 c.in-Some-split_first.ensures.cases.0 (sym c.if-eq_ignore_ascii_case.ensures)
    c.if-eq_ignore_ascii_case-2.ensures.test (sym c.if-is_exchanged.ensures) c.if-eq_ignore_ascii_case-3.ensures.test c.eq_ignore_ascii_case-else-eq_ignore_ascii_case-3.ensures.test
