-- The list has one spelling and one first fault, and the blob has one reading.
use Rattle.ssh_cert.specs.SubjectReading.{subject_of}
use Rattle.krl_c.proofs.OneAnswer.{blob_once, list_once}
use Rattle.krl_c.proofs.laws.one_answer.Goals as goal

pub returns : goal.returns
returns c = λ list blob one other fits bytes.
    list_once list (c.one_list.ensures list fits)
    (blob_once blob (subject_of blob) (record { subject = λ asked. (c.asked_where_spelled.ensures blob asked bytes).1; fault = λ fault. (c.not_asked_by_first_fault.ensures blob fault bytes).1 })) one other
