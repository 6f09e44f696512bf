-- The fields of a whole list, and the first of them that has a difference.
use Rattle.std.specs.Prelude.{◌≡◌, ℕ, true, List, [], ◌∷◌, Option}
use Rattle.std.specs.List.{concat}
use Rattle.krl_format.specs.Front.{Passes, start}
use Rattle.krl_format.specs.Place.{can_end}
use Rattle.krl_format.specs.declared.place.Place.{Place}
use Rattle.krl_openssh.specs.Difference.{first_difference}
use Rattle.krl_openssh.specs.declared.difference.Difference.{Difference}

-- From a place, each field passes and leads to the next place, up to a place where the list may
-- end.
abbrev pub AreWhole : Place → List (List ℕ) → Type 0
AreWhole place [] = can_end place ≡ true
AreWhole place (field ∷ fields) =
    (next : Place) × (Passes place field next × AreWhole next fields)

-- A list is these fields, one after the other.
pub record HasFields (list : List ℕ) (fields : List (List ℕ)) : Type 0 where
  pub whole : AreWhole start.place fields
  pub parts : list ≡ concat fields

-- The first difference of a list is that of its fields.
pub record IsFirstDifference (list : List ℕ) (difference : Option Difference) : Type 0 where
  pub fields : List (List ℕ)
  pub has : HasFields list fields
  pub difference_is : difference ≡ first_difference start.place fields
