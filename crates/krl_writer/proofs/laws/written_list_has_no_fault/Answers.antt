use Rattle.krl_writer.proofs.ReadBack.{written_spelled}
use Rattle.krl_format.proofs.SpelledLists.{only_broken_off, spelled_unfaulted}
use Rattle.krl_writer.proofs.laws.written_list_has_no_fault.Goals as goal

pub returns-clause-unfaulted : goal.returns-clause-unfaulted
returns-clause-unfaulted c header r text is short version date orderly bytes =
    let w = written_spelled header r text is short version date orderly in
    spelled_unfaulted text header w.sections bytes w.spelled short

pub returns-clause-refused : goal.returns-clause-refused
returns-clause-refused c header r text is short version date orderly bytes fault failed left says =
    let w = written_spelled header r text is short version date orderly in
    only_broken_off fault failed left text header w.sections says bytes w.spelled short
