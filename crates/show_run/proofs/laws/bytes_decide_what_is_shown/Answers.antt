-- Bytes have one header and one row of entries, which decide what is held.
use Rattle.show_run.proofs.OneText.{one_text}
use Rattle.show_run.proofs.laws.bytes_decide_what_is_shown.Goals as goal

pub returns : goal.returns
returns c name bytes one other is also = one_text name bytes one other is also
