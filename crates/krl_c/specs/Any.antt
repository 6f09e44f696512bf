-- The answer of a list that may be a plain list of keys.
use Rattle.std.specs.Prelude.{◌≡◌, ℕ, ℤ, Bool, true, false, List}
use Rattle.krl_types.specs.Entry.{Entry}
use Rattle.plain_list.specs.Any.{IsPlainOf, begins_list}
use Rattle.plain_list.specs.List.{HasFault}
use Rattle.plain_list.specs.declared.fault.PlainFault.{PlainFault}
use Rattle.krl_c.specs.Answer.{Answers, AnswersBlob}
use Rattle.krl_c.specs.Number.{plain_number}

-- The answer of a plain list for a blob: that of the keys on its lines, or the number of its fault.
pub data AnswersPlain (list blob : List ℕ) (number : ℤ) : Type 0 where
  plain : (entries : List Entry) → IsPlainOf list entries → AnswersBlob entries blob number
      → AnswersPlain list blob number
  no_plain : (fault : PlainFault) → HasFault list fault → number ≡ plain_number fault
      → AnswersPlain list blob number

abbrev pub AnswersIf : Bool → (list blob : List ℕ) → ℤ → Type 0
AnswersIf true list blob number = Answers list blob number
AnswersIf false list blob number = AnswersPlain list blob number

-- A list that does not begin with the magic of a key revocation list is a plain list.
abbrev pub AnswersAny : (list blob : List ℕ) → ℤ → Type 0
AnswersAny list = AnswersIf (begins_list list) list
