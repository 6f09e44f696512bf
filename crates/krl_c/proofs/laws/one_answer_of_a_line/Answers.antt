-- The list has one spelling and one first fault, and the line and its blob have one reading.
use Rattle.ssh_cert.specs.SubjectReading.{subject_of}
use Rattle.key_text.specs.LineReading.{line_at}
use Rattle.krl_c.proofs.OneAnswer.{blob_once, line_once, list_once}
use Rattle.krl_c.proofs.laws.one_answer_of_a_line.Goals as goal

pub returns : goal.returns
returns c = λ list text one other fits bytes.
    list_once list (c.one_list.ensures list fits)
    (λ entries. line_once text (line_at text) (λ word blob comment. c.line_read_where_spelled.ensures.read text word blob comment) (λ fault. (c.line_refused_by_first_fault.ensures text fault bytes).1) entries
    (λ word blob comment is.
    blob_once blob (subject_of blob) (record { subject = λ asked. (c.asked_where_spelled.ensures blob asked is.bytes).1; fault = λ fault. (c.not_asked_by_first_fault.ensures blob fault is.bytes).1 }) entries)) one other
