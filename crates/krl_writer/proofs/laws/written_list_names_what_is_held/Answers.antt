use Rattle.krl_writer.proofs.ReadBack.{written_spelled}
use Rattle.krl_writer.proofs.laws.written_list_names_what_is_held.Goals as goal

pub returns : goal.returns
returns c header r text is short version date orderly =
    let w = written_spelled header r text is short version date orderly in
    (w.sections, (w.spelled, w.means))
