-- The list has one spelling and one first fault.
use Rattle.krl_c.proofs.Common.{◌∙◌, ap, entries_of, IsIncomparable, None, Some, subst, sym}
use Rattle.krl_openssh.proofs.OneReason.{one_reason}
use Rattle.krl_c.proofs.laws.one_list.Goals as goal

pub returns : goal.returns
returns c = λ list fits. record {
  entries = λ these others is also.
      is.entries_are ∙ ap entries_of (c.one_spelling.ensures list is.header also.header is.sections also.sections is.spelled also.spelled).1 ∙ sym also.entries_are;
  names = λ these others is also one other names also_names.
      one_reason also.sections one other (subst (λ sections. IsIncomparable sections one) (c.one_spelling.ensures list is.header also.header is.sections also.sections is.spelled also.spelled).1 names) also_names;
  fault = λ one other first also. let same = c.one_first_fault.ensures list (Some one) (Some other) first also in cc;
  none = λ these fault is first.
      let none = c.no_fault_where_spelled.ensures.spelled list is.header is.sections fits is.spelled is.within in
      let same = c.one_first_fault.ensures list None (Some fault) none first in
      absurd (cc);
}
