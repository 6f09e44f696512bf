-- A text has one reading if its known contents are unique and exclude a fault.
use Rattle.std.proofs.Common.{◌≡◌, ◌⊎◌, ℕ, false, List, Result, Ok, Err, Option, Some, None, ap}
use Rattle.std.proofs.Common.{inl, inr}
use Rattle.krl_format.specs.Front.{IsFirstKrlFault}
use Rattle.krl_core.specs.Reading.{IsReadAs}
use Rattle.krl_format.specs.Faults.{Says, ran_out, failed_read, first}
use Rattle.krl_types.specs.declared.krl_fault.KrlFault.{KrlFault}
use Rattle.krl_types.specs.declared.krl_fault.KrlFault.TheVariants.{NoMemory}

-- the fault of a reader that did not fail
said_by : (fault : KrlFault) (text : List ℕ) (left : Option (List ℕ)) → Says fault text false left → (fault ≡ NoMemory) ⊎ IsFirstKrlFault text (Some fault)
said_by fault text left (ran_out is some works) = inl is
said_by fault text left (failed_read is fails) = let failed = fails.failed_is in absurd (cc)
said_by fault text left (first is works) = inr is

-- The known contents of a text are unique, and only a text without a fault has them. A text has one
-- first fault.
pub record HasOne {K : Type 0} (Knows : List ℕ → K → Type 0) : Type 0 where
  pub known : (text : List ℕ) (one other : K) → Knows text one → Knows text other → one ≡ other
  pub no_fault : (text : List ℕ) (known : K) → Knows text known → IsFirstKrlFault text None
  pub fault : (text : List ℕ) (one other : Option KrlFault) → IsFirstKrlFault text one → IsFirstKrlFault text other → one ≡ other

not_refused : {K : Type 0} (Knows : List ℕ → K → Type 0) → HasOne Knows → (text : List ℕ) (known : K) (fault : KrlFault) (left : Option (List ℕ))
    → Knows text known → Says fault text false left → fault ≡ NoMemory
not_refused Knows has text known fault left h said =
    elim (said_by fault text left said) [
      | inl none ↦ none
      | inr is ↦ let other = has.fault text None (Some fault) (has.no_fault text known h) is in absurd (cc)
    ]

pub one_way : {K : Type 0} (Knows : List ℕ → K → Type 0) → HasOne Knows → (text : List ℕ) (one other : Result K KrlFault) (left later : Option (List ℕ))
    → IsReadAs Knows text one false left → IsReadAs Knows text other false later → (one ≡ other) ⊎ ((one ≡ Err NoMemory) ⊎ (other ≡ Err NoMemory))
one_way Knows has text (Ok one) (Ok other) left later h k = inl (ap Ok (has.known text one other h k))
one_way Knows has text (Ok one) (Err fault) left later h k = inr (inr (ap Err (not_refused Knows has text one fault later h k)))
one_way Knows has text (Err fault) (Ok other) left later h k = inr (inl (ap Err (not_refused Knows has text other fault left k h)))
one_way Knows has text (Err fault) (Err other) left later h k =
    elim (said_by fault text left h) [
      | inl none ↦ inr (inl (ap Err none))
      | inr is ↦ elim (said_by other text later k) [
        | inl none ↦ inr (inr (ap Err none))
        | inr also ↦ inl (let same = has.fault text (Some fault) (Some other) is also in cc)
      ]
    ]
