-- Each law of key lines and of blobs gives its part.
use Rattle.keyed_lines.proofs.KeyLaws.{KeyLaws, fault_met, subject_again, subject_found, subject_refused}
use Rattle.keyed_lines.proofs.laws.key_where_spelled.Goals as goal

pub returns : goal.returns
returns c =
    let laws : KeyLaws = record {
      line_read = c.line_read_where_spelled.ensures.read;
      line_found = c.line_read_where_spelled.ensures.spelled;
      line_refused = c.line_refused_by_first_fault.ensures;
      asked = c.asked_where_spelled.ensures;
      not_asked = c.not_asked_by_first_fault.ensures;
    } in
    record {
      read = λ text asked fits. (subject_found laws text asked fits, subject_again laws text asked);
      refused = λ text cause fits. (subject_refused laws text cause fits, fault_met laws text cause fits);
    }
