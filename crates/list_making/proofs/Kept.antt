-- The list under a name through several calls.
use Rattle.std.proofs.Common.{◌≡◌, ℕ, ◌⊎◌, List, Option, inl, inr}
use Rattle.run_faults.specs.declared.cause.Cause.{Cause}
use Rattle.list_making.specs.Target.{IsCut, IsKept}
use Rattle.list_making.specs.Making.{IsUntouched}

pub kept_then : {P : Type 0} → (holds : P → Option (List ℕ) → Type 0) → (overtaken : P → Type 0) → (first second third : P)
    → IsKept holds overtaken first second → IsKept holds overtaken second third → IsKept holds overtaken first third
kept_then holds overtaken first second third one other = record {
  still = elim one.still [
    | inl held ↦ elim other.still [
      | inl later ↦ inl (λ content holds_it. later content (held content holds_it))
      | inr gone ↦ inr gone
    ]
    | inr gone ↦ inr (other.later gone)
  ];
  later = λ was. other.later (one.later was);
}

-- the same where a call may have written a list in place up to a byte
pub untouched_then : {P F : Type 0} → (holds : P → Option (List ℕ) → Type 0) → (overtaken : P → Type 0) → (fault_of : Cause → F) → (first second third : P) (fault : F)
    → IsKept holds overtaken first second → IsUntouched holds overtaken fault_of second third fault → IsUntouched holds overtaken fault_of first third fault
untouched_then holds overtaken fault_of first second third fault one other = elim other [
  | inl kept ↦ inl (kept_then holds overtaken first second third one kept)
  | inr cut ↦ inr cut
]

pub put_failed : {P F : Type 0} → (holds : P → Option (List ℕ) → Type 0) → (overtaken : P → Type 0) → (fault_of : Cause → F) → (first second third : P) (fault : F) (cause : Cause)
    → IsKept holds overtaken first second → (IsKept holds overtaken second third ⊎ IsCut cause) → fault ≡ fault_of cause → IsUntouched holds overtaken fault_of first third fault
put_failed holds overtaken fault_of first second third fault cause one other is = elim other [
  | inl kept ↦ inl (kept_then holds overtaken first second third one kept)
  | inr cut ↦ inr (cause, cut, is)
]
