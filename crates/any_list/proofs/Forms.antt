-- A list that was read, by how its bytes begin, and the fault of one that is not.
use Rattle.std.proofs.Common.{◌≡◌, ℕ, Bool, false, List, Option, Some, None, refl, sym, ap, subst}
use Rattle.krl_types.specs.declared.krl_fault.KrlFault.{KrlFault}
use Rattle.krl_core.specs.Reading.{IsList}
use Rattle.krl_entries.specs.Revocations.{Revocations}
use Rattle.krl_format.specs.Entries.{entries_of}
use Rattle.krl_format.specs.Faults.{Says, failed_read, first, ran_out}
use Rattle.krl_format.specs.Front.{IsFirstKrlFault}
use Rattle.krl_format.specs.declared.header.Header.{Header}
use Rattle.run_faults.specs.RunFault.{krl_cause, run_fault_of}
use Rattle.plain_list.specs.Any.{NamesIf, NamesWhole, begins_list}
use Rattle.any_list.specs.List.{IsReadAs, IsReadList, IsWholeFault, whole_fault, whole_ran_out}
use Rattle.any_list.specs.declared.list.List.{List as ListOf}

pub read_if : (begins : Bool) (name bytes : List ℕ) (list : ListOf) → begins_list bytes ≡ begins → IsReadAs (NamesIf begins bytes) name list → IsReadList name bytes list
read_if begins name bytes list is read = subst (λ (b : Bool). IsReadAs (NamesIf b bytes) name list) (sym is) read

pub named_whole : (bytes : List ℕ) (header : Header) (held : Revocations) (list : IsList bytes header held) → IsFirstKrlFault bytes None → NamesWhole bytes (Some header) (entries_of list.sections)
named_whole bytes header held list none = record {
  is = record { header = header; sections = list.sections; spelled = list.spelled; within = list.within; entries_are = refl };
  no_fault = none;
  header_is = refl;
}

-- Borrowed bytes do not fail.
pub whole_refused : (name bytes : List ℕ) (fault : KrlFault) (left : Option (List ℕ)) → Says fault bytes false left → IsWholeFault name bytes (run_fault_of name (krl_cause fault))
whole_refused name bytes fault left (ran_out is lacks works) = whole_ran_out lacks (ap (λ (f : KrlFault). run_fault_of name (krl_cause f)) is)
whole_refused name bytes fault left (failed_read is fails) = let failed = fails.failed_is in absurd (cc)
whole_refused name bytes fault left (first is works) = whole_fault fault is refl
