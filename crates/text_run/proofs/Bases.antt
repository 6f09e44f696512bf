-- The part of the old list that the new one takes over.
use Rattle.std.proofs.Common.{◌≡◌, ℕ, Bool, false, true, List, Option, None, Some, is_some, option_map, Result, Ok, Err, inl, inr, refl}
use Rattle.std.specs.Prelude.{IfErr, IfOk}
use Rattle.krl_core.specs.Reading.{IsList}
use Rattle.krl_entries.specs.Revocations.{Revocations}
use Rattle.krl_format.specs.Front.{IsFirstKrlFault}
use Rattle.krl_format.specs.declared.header.Header.{Header}
use Rattle.krl_types.specs.declared.krl_fault.KrlFault.{KrlFault}
use Rattle.krl_types.specs.declared.krl_fault.KrlFault.TheVariants.{Read}
use Rattle.run_faults.specs.RunFault.{krl_cause}
use Rattle.run_faults.specs.declared.cause.Cause.{Cause}
use Rattle.text_run.specs.Base.{IsReadOver, IsTaken, IsUnread, IsUntaken, base_of, faulty, is_read, unknown}
use Rattle.text_run.specs.declared.base.Base.{Base}
use Rattle.text_run.specs.declared.inputs.Over.{Over}
use Rattle.text_run.specs.declared.inputs.Over.TheVariants.{Nothing, Version, Contents}

pub list_taken : (over : Over) (before : Option (List ℕ)) (base : Base) (header : Header) (contents : Revocations) (failed : Bool) → base ≡ base_of over header contents
    → failed ≡ false → ((text : List ℕ) → before ≡ Some text → IsList text header contents)
    → ((text : List ℕ) → before ≡ Some text → IsFirstKrlFault text None) → IsTaken over before (Ok base)
list_taken over before base header contents failed same works list none = record {
  read = Ok (record { header = header; contents = contents });
  failed = failed;
  left = None;
  is_read = record { failure = works; read = λ text has. record { list = list text has; no_fault = none text has } };
  outcome_is = rw same refl;
}

-- a reader that has the same bytes left
taken_again : (over : Over) (before ahead : Option (List ℕ)) (outcome : Result Base KrlFault) → ((text : List ℕ) → before ≡ Some text → ahead ≡ Some text)
    → IsTaken over ahead outcome → IsTaken over before outcome
taken_again over before ahead outcome same taken = record {
  read = taken.read;
  failed = taken.failed;
  left = taken.left;
  is_read = record { failure = taken.is_read.failure; read = λ text has. taken.is_read.read text (same text has) };
  outcome_is = taken.outcome_is;
}

read_there : (over : Over) (given : Option ℕ) (before : Option (List ℕ)) (outcome : Result Base KrlFault) → is_read over ≡ true → IsTaken over before outcome
    → IsReadOver over given (Some before) outcome
read_there Nothing given before outcome is taken = absurd (cc is)
read_there Version given before outcome is taken = inr taken
read_there Contents given before outcome is taken = taken

-- The list is read by a reader of its bytes.
pub read_by : {R : Type 0} (left : R → Option (List ℕ)) (over : Over) (given : Option ℕ) (old : Option R) (reader : R) (ahead : Option (List ℕ)) (result : Result Base Cause)
    → is_read over ≡ true → old ≡ Some reader → ((text : List ℕ) → left reader ≡ Some text → ahead ≡ Some text) → IfOk result (λ base. IsTaken over ahead (Ok base))
    → IfOk result (λ base. IsReadOver over given (option_map left old) (Ok base))
read_by left over given old reader ahead (Ok base) is was same taken = rw was (read_there over given (left reader) (Ok base) is (taken_again over (left reader) ahead (Ok base) same taken))
read_by left over given old reader ahead (Err cause) is was same taken = tt

pub unread_by : {R : Type 0} (left : R → Option (List ℕ)) (over : Over) (given : Option ℕ) (old : Option R) (reader : R) (ahead : Option (List ℕ)) (result : Result Base Cause)
    → is_read over ≡ true → old ≡ Some reader → ((text : List ℕ) → left reader ≡ Some text → ahead ≡ Some text) → IfErr result (IsUntaken over ahead)
    → IfErr result (IsUnread over given (option_map left old))
unread_by left over given old reader ahead (Ok base) is was same taken = tt
unread_by left over given old reader ahead (Err cause) is was same (fault, taken, cause_is) =
    faulty fault (rw was (read_there over given (left reader) (Err fault) is (taken_again over (left reader) ahead (Err fault) same taken))) cause_is

-- The reader fails before the first byte.
pub unread_first : {R : Type 0} (left : R → Option (List ℕ)) (over : Over) (given : Option ℕ) (old : Option R) (reader : R) (cause : Cause)
    → over ≡ Version → old ≡ Some reader → is_some given ≡ true → cause ≡ krl_cause Read → IsUnread over given (option_map left old) cause
unread_first left over given old reader cause is was some cause_is = faulty Read (rw (is, was) (inl (unknown some refl))) cause_is
