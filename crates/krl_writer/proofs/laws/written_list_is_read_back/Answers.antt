use Rattle.krl_writer.proofs.ReadBack.{read_back, written_spelled}
use Rattle.krl_writer.proofs.laws.written_list_is_read_back.Goals as goal

pub returns : goal.returns
returns c header read r held text is short version date orderly sections spelled means =
    read_back header read r held text (written_spelled header r text is short version date orderly) sections spelled means
