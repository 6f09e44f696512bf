-- Lists that were read one after the other, and why one was not.
use Rattle.std.specs.Borrow.{Bor}
use Rattle.std.specs.Prelude.{◌≡◌, ℕ, List, [], ◌∷◌, ◌++◌, ⊤}
use Rattle.run_faults.specs.RunFault.{RunFault, run_fault_of}
use Rattle.run_faults.specs.declared.cause.Cause.TheVariants.{NoMemory}
use Rattle.any_list.specs.List.{IsGiven, IsRefused}
use Rattle.any_list.specs.Told.{Reading}
use Rattle.any_list.specs.declared.list.List.{List as ListOf}

-- The files of these names were read once each, in this order, and the lists are read from their
-- bytes.
abbrev pub AreGiven : List Reading → List (Bor (List ℕ)) → List ListOf → Type 0
AreGiven [] [] [] = ⊤
AreGiven (one ∷ told) (name ∷ names) (list ∷ lists) =
    ((bytes : List ℕ) × IsGiven (one ∷ []) name.now bytes list) × AreGiven told names lists
AreGiven _ _ _ = ⊥

-- The list of this name is refused, or there is no memory to keep it after it was read.
pub data IsLast (told : List Reading) (name : List ℕ) (stop : RunFault) : Type 0 where
  refused : IsRefused told name stop → IsLast told name stop
  not_kept : (bytes : List ℕ) → (list : ListOf) → IsGiven told name bytes list
      → stop ≡ run_fault_of name NoMemory → IsLast told name stop

-- The run stopped at one of these lists, after those that were read.
pub record StopsReading (told : List Reading) (names : List (Bor (List ℕ))) (stop : RunFault)
    : Type 0 where
  pub before : List (Bor (List ℕ))
  pub name : Bor (List ℕ)
  pub after : List (Bor (List ℕ))
  pub names_are : names ≡ before ++ name ∷ after
  pub lists : List ListOf
  pub first : List Reading
  pub last : List Reading
  pub told_is : told ≡ first ++ last
  pub are_given : AreGiven first before lists
  pub is_last : IsLast last name.now stop
