-- Each law of reading containers and blobs gives its part.
use Rattle.std.proofs.Common.{None, [], sym, ap, ◌∙◌}
use Rattle.ssh_key.specs.KeyReading.{key_at}
use Rattle.key_text.specs.LineReading.{content}
use Rattle.run_faults.specs.Keys.{file_key_of}
use Rattle.run_output.specs.Run.{container_item}
use Rattle.run_output.proofs.AnsweredFiles.{blob_answered}
use Rattle.run_output.proofs.laws.containers_by_what_is_spelled.Goals as goal

pub returns-clause-answered : goal.returns-clause-answered
returns-clause-answered c = λ answer name text blob comment asked key fits bytes is is_asked is_key.
    let read = (c.private_read_where_spelled.ensures text blob comment fits).1 is in
    let asks = (c.asked_where_spelled.ensures blob asked bytes).1 is_asked in
    let back = c.blob_read_back.ensures asked.plain key is_key in
    let reads = sym (ap key_at back.0) ∙ back.1 in
    ap (container_item answer name) read ∙ blob_answered answer (file_key_of name None (content [] blob comment)) asked key asks reads

pub returns-clause-fault : goal.returns-clause-fault
returns-clause-fault c = λ answer name text fault fits first.
    ap (container_item answer name) ((c.private_refused_by_first_fault.ensures text fault fits).1 first)
