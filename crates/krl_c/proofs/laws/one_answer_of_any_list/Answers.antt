-- A list that is a plain list has one reading of its lines.
use Rattle.krl_c.proofs.Common.{nat_eq, subject_of}
use Rattle.std.specs.List.{starts_with}
use Rattle.krl_format.specs.Krl.{magic}
use Rattle.krl_c.proofs.OneAnswer.{blob_once}
use Rattle.krl_c.proofs.OnePlainAnswer.{any_once}
use Rattle.krl_c.proofs.laws.one_answer_of_any_list.Goals as goal

pub returns : goal.returns
returns c = λ list blob one other fits bytes.
    any_once (starts_with nat_eq list magic) list blob (λ one other. c.one_answer.ensures list blob one other fits bytes)
    (blob_once blob (subject_of blob) (record { subject = λ asked. (c.asked_where_spelled.ensures blob asked bytes).1; fault = λ fault. (c.not_asked_by_first_fault.ensures blob fault bytes).1 })) one other
